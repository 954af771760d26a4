-- What fits a text fits the network whose names the text cites.
use Rattle.std.proofs.Common.{◌≡◌, ◌⊎◌, ℕ, suc, ◌+◌, ◌<◌, Bool, true, false, inl, inr, List, [], ◌∷◌, ◌++◌, length, map, Option, Some, None, Result, Ok, Err, refl, ap, sym, subst, ◌∙◌}
use Rattle.std.specs.Prelude.{All}
use Rattle.std.specs.List.{AllByRecursion, filter_map, flat_map}
use Rattle.std.proofs.lemmas.List.{length-append, length-map}
use Rattle.std.proofs.lemmas.List.Elements.{All-from_recursion}
use Rattle.flow_model.specs.Network.{Network}
use Rattle.flow_model.specs.Routing.{Row}
use Rattle.flow_paths.specs.DualRows.{Length, Potential}
use Rattle.flow_paths.specs.declared.certificate.Routing.{Routing}
use Rattle.flow_paths.specs.declared.certificate.Proof.{Proof}
use Rattle.flow_paths.specs.Certificate.{IsRowOf, IsRoutingOf, IsPotentialOf, IsProofOf}
use Rattle.unit_scale.specs.Modes.{signs}
use Rattle.unit_scale.specs.declared.modes.Sign.{Sign}
use Rattle.unit_scale.specs.declared.options.NetOptions.{NetOptions}
use Rattle.sndlib_grammar.specs.Rows.{NetRows, NetLink, NetDemand, names_of_links}
use Rattle.sndlib_grammar.specs.declared.refusal.NetRefusal.{NetRefusal}
use Rattle.unit_scale.specs.Sizes.{decimals_of, is_left_out, sizes}
use Rattle.unit_scale.specs.Scaling.{ScaledNet, scaled_of, scaled_with, unless_refused, refusal, cell_going, capacity_in, cells_of_link, commodity_of, kept_from}
use Rattle.cert_lines.specs.Sheet.{Sheet, sheet_of, sign_mark, signed_words, demand_word}
use Rattle.cert_lines.specs.Spelling.{FitsLength, FitsPotential, FitsPath}
use Rattle.cert_writer.specs.Text.{FitsRouting, FitsProof}

-- ---- the network has the sizes of the sheet

-- the words and the cells of a link are as many as its signs
same_count : (o : NetOptions) (s : ℕ) (links : List NetLink)
    → length (flat_map (signed_words o.links) (map (λ (l : NetLink). l.id) links)) ≡ length (flat_map (cells_of_link o s) links)
same_count o s [] = refl
same_count o s (l ∷ links) =
    let more = same_count o s links in
    let ways = signs o.links in
    let words = map (λ (sign : Sign). sign_mark sign ++ l.id) ways in
    let cells = map (cell_going l.source l.target (capacity_in o s l)) ways in
    let a = length-append words (flat_map (signed_words o.links) (map (λ (k : NetLink). k.id) links)) in
    let b = length-append cells (flat_map (cells_of_link o s) links) in
    let p = length-map ways (λ (sign : Sign). sign_mark sign ++ l.id) in
    let q = length-map ways (cell_going l.source l.target (capacity_in o s l)) in
    a ∙ ap (λ (n : ℕ). n + length (flat_map (signed_words o.links) (map (λ (k : NetLink). k.id) links))) (p ∙ sym q)
    ∙ ap (λ (n : ℕ). length cells + n) more ∙ sym b

bool_is : (b : Bool) → (b ≡ true) ⊎ (b ≡ false)
bool_is true = inl refl
bool_is false = inr refl

-- as many demands are kept as there are commodities
kept_same : (s n : ℕ) (ds : List NetDemand) → length (kept_from n ds) ≡ length (filter_map (commodity_of s) ds)
kept_same s n [] = refl
kept_same s n (d ∷ ds) = elim (bool_is (is_left_out d)) [
  | inl out ↦ rw out (kept_same s (n + 1) ds)
  | inr kept ↦ rw kept (ap suc (kept_same s (n + 1) ds))
]

abbrev net_or : ScaledNet → Result ScaledNet NetRefusal → ScaledNet
net_or net (Ok other) = other
net_or net (Err r) = net

accepted : (a net : ScaledNet) (r : Option NetRefusal) → unless_refused a r ≡ Ok net → a ≡ net
accepted a net None e = ap (net_or a) e
accepted a net (Some r) e = absurd cc

pub is_scaled : (rows : NetRows) (o : NetOptions) (net : ScaledNet) → scaled_of rows o ≡ Ok net → scaled_with o (decimals_of (sizes o.modules rows)) rows ≡ net
is_scaled rows o net e =
    let s = decimals_of (sizes o.modules rows) in
    accepted (scaled_with o s rows) net (refusal o.modules s rows) e

-- the network has as many nodes, cells and commodities as the sheet has words
pub record IsSized (sheet : Sheet) (net : Network) : Type 0 where
  pub nodes : length sheet.nodes ≡ net.nodes
  pub cells : length sheet.cells ≡ length net.cells
  pub commodities : length sheet.commodities ≡ length net.commodities

pub sized : (rows : NetRows) (o : NetOptions) (net : ScaledNet) → scaled_of rows o ≡ Ok net → IsSized (sheet_of rows net) net.net
sized rows o net e =
    let s = decimals_of (sizes o.modules rows) in
    let is = is_scaled rows o net e in
    record {
      nodes = length-map rows.nodes (λ n. n.id) ∙ ap (λ (n : ScaledNet). n.net.nodes) is;
      cells = subst (λ (n : ScaledNet). length (flat_map (signed_words n.options.links) (names_of_links rows)) ≡ length n.net.cells) is (same_count o s rows.links);
      commodities = length-map net.kept (demand_word rows)
          ∙ subst (λ (n : ScaledNet). length n.kept ≡ length n.net.commodities) is (kept_same s 0 rows.demands);
    }

-- ---- rows

along : {X : Type 0} {P Q : X → Type 0} → ((x : X) → P x → Q x) → (xs : List X) → AllByRecursion P xs → AllByRecursion Q xs
along f [] h = tt
along f (x ∷ xs) h = (f x h.0, along f xs h.1)

row_fits : (sheet : Sheet) (net : Network) → IsSized sheet net → (row : Row) → FitsPath sheet row → IsRowOf net row
row_fits sheet net size row fits = record {
  commodity = subst (λ n. row.commodity < n) size.commodities fits.commodity;
  cells = subst (λ n. All (λ c. c < n) row.walk) size.cells (All-from_recursion (λ c. c < length sheet.cells) row.walk fits.cells);
  short = fits.short;
}

pub routing_fits : (sheet : Sheet) (net : Network) → IsSized sheet net → (r : Routing) → FitsRouting sheet r → IsRoutingOf net r
routing_fits sheet net size r fits = record {
  phases = fits.phases;
  scale_cap = fits.scale_cap;
  scale_load = fits.scale_load;
  rows = All-from_recursion (IsRowOf net) r.paths (along (row_fits sheet net size) r.paths fits.paths);
}

length_fits : (sheet : Sheet) (net : Network) → IsSized sheet net → (r : Length) → FitsLength sheet r → r.cell < length net.cells
length_fits sheet net size r fits = subst (λ n. r.cell < n) size.cells fits.cell

potential_fits : (sheet : Sheet) (net : Network) → IsSized sheet net → (r : Potential) → FitsPotential sheet r → IsPotentialOf net r
potential_fits sheet net size r fits = record {
  node = subst (λ n. r.node < n) size.nodes fits.node;
  values = fits.count ∙ size.nodes;
}

pub proof_fits : (sheet : Sheet) (net : Network) → IsSized sheet net → (p : Proof) → FitsProof sheet p → IsProofOf net p
proof_fits sheet net size p fits = record {
  routing = routing_fits sheet net size p.routing fits.routing;
  gap = fits.gap;
  lower_micro = fits.lower.micro;
  upper_micro = fits.upper.micro;
  lengths = All-from_recursion (λ r. r.cell < length net.cells) p.dual.lengths (along (length_fits sheet net size) p.dual.lengths fits.lengths);
  potentials = All-from_recursion (IsPotentialOf net) p.dual.potentials (along (potential_fits sheet net size) p.dual.potentials fits.potentials);
}
