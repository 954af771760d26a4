-- The best certificate of valid ones: it is a certificate, and can be written.
use Rattle.std.proofs.Common.{◌≡◌, ◌≤◌, ℕ, true, List, [], ◌∷◌, Option, Some, None, inl, inr, refl, subst, arith}
use Rattle.std.specs.Prelude.{All, IfSome, IsTrue, option_to_list}
use Rattle.std.specs.List.{flat_map}
use Rattle.std.proofs.lemmas.List.Elements.{All-append, All-cons, All-from_recursion, All-head, All-weaker}
use Rattle.mcf_limits.specs.declared.TheConstants.{MAX_LENGTH}
use Rattle.flow_model.specs.declared.net.Cell.{Cell}
use Rattle.flow_paths.specs.DualRows.{Length, Potential}
use Rattle.flow_paths.specs.declared.certificate.Proof.{Proof}
use Rattle.flow_paths.specs.Certificate.{upper_of}
use Rattle.sndlib_grammar.specs.Rows.{NetRows, NetLink}
use Rattle.unit_scale.specs.declared.modes.LinkMode.{LinkMode}
use Rattle.unit_scale.specs.declared.modes.LinkMode.TheVariants.{Directed, Undirected, Bidirected}
use Rattle.unit_scale.specs.declared.modes.Sign.TheVariants.{Both}
use Rattle.unit_scale.specs.declared.options.NetOptions.{NetOptions}
use Rattle.unit_scale.specs.Sizes.{decimals_of, sizes}
use Rattle.unit_scale.specs.Scaling.{ScaledNet, capacity_in, cell_going, cells_of_link, link_cells}
use Rattle.cut_bound.specs.Laws.{GoBothWays, IsBetter, IsSmall}
use Rattle.cut_bound.specs.Tightened.{IsCertificateOf}
use Rattle.cut_bound.proofs.Keeping.{routing-kept, tightened-small}
use Rattle.cut_bound.proofs.Tightening.{tightened-best}
use Rattle.cert_lines.specs.Sheet.{IsOf, Sheet, sheet_of}
use Rattle.cert_lines.specs.Spelling.{FitsLength, FitsPotential}
use Rattle.cert_writer.specs.Text.{FitsProof, FitsRouting}
use Rattle.cert_check.proofs.Sound.{valid_certifies}
use Rattle.cert_judge.specs.Certified.{IsCertificate}
use Rattle.cert_judge.proofs.Fitting.{is_scaled, sized}
use Rattle.net_solve.proofs.Figures.{lower-fits, upper-fits}
use Rattle.net_solve.proofs.Written.{each, length-fits, potential-fits}
use Rattle.cert_judge.specs.declared.second.Second.TheVariants.{Valid}
use Rattle.cert_judge.specs.Second.{IsSecondText, with_net}
use Rattle.base_cmd.specs.Answer.{Answer, OrWant}
use Rattle.cert_cmd.specs.Tighten.{IsBestOf, OnSecond, WritesBest, go_both_ways}

-- ---- how cells go

link_both : (mode : LinkMode) (source target amount : ℕ) → IsTrue (go_both_ways mode) → All (λ (cell : Cell). cell.both ≡ true) (link_cells mode source target amount)
link_both Directed source target amount t = absurd cc
link_both Undirected source target amount t = All-cons (λ (cell : Cell). cell.both ≡ true) (cell_going source target amount Both) [] refl (λ i d l. absurd (omega arith))
link_both Bidirected source target amount t = absurd cc

cells_both : (o : NetOptions) (s : ℕ) (links : List NetLink) → IsTrue (go_both_ways o.links) → All (λ (cell : Cell). cell.both ≡ true) (flat_map (cells_of_link o s) links)
cells_both o s [] t = λ i d l. absurd (omega arith)
cells_both o s (l ∷ links) t =
    All-append (λ (cell : Cell). cell.both ≡ true) (cells_of_link o s l) (flat_map (cells_of_link o s) links)
    (link_both o.links l.source l.target (capacity_in o s l) t) (cells_both o s links t)

-- where links are undirected, each cell goes both ways
pub ways_of : (rows : NetRows) (net : ScaledNet) → IsOf rows net → GoBothWays net.net (go_both_ways net.options.links)
ways_of rows net of =
    let s = decimals_of (sizes of.options.modules rows) in
    subst (λ (n : ScaledNet). GoBothWays n.net (go_both_ways n.options.links)) (is_scaled rows of.options net of.scaled) (cells_both of.options s rows.links)

-- ---- what is tightened

pub given_of : (rows : NetRows) (net : ScaledNet) (p : Proof) → IsCertificate rows net p → IsCertificateOf net.net p
given_of rows net p c = record { fits = c.proof_of; valid = c.valid }

small_of : (sheet : Sheet) (p : Proof) → FitsProof sheet p → IsSmall p.dual
small_of sheet p fits = record {
  lengths = All-weaker (FitsLength sheet) (λ (r : Length). r.value ≤ MAX_LENGTH) (λ r f. f.value) p.dual.lengths (All-from_recursion (FitsLength sheet) p.dual.lengths fits.lengths);
  potentials = All-weaker (FitsPotential sheet) (λ (r : Potential). All (λ n. n ≤ MAX_LENGTH) r.values) (λ r f. All-from_recursion (λ n. n ≤ MAX_LENGTH) r.values f.values) p.dual.potentials
      (All-from_recursion (FitsPotential sheet) p.dual.potentials fits.potentials);
}

-- the certificates that were handed in
pub given_all : (rows : NetRows) (net : ScaledNet) (first : Proof) (second : Option Proof) → IsCertificate rows net first → IfSome second (IsCertificate rows net)
    → All (IsCertificate rows net) (first ∷ option_to_list second)
given_all rows net first None a b = All-cons (IsCertificate rows net) first [] a (λ i d l. absurd (omega arith))
given_all rows net first (Some p) a b = All-cons (IsCertificate rows net) first (p ∷ []) a (All-cons (IsCertificate rows net) p [] b (λ i d l. absurd (omega arith)))

divides : (n : ℕ) → (n ≡ 0 → ⊥) → 1 ≤ n
divides n apart = omega arith

module _ (rows : NetRows) (net : ScaledNet) (first : Proof) (others : List Proof) (best : Proof) (h : All (IsCertificate rows net) (first ∷ others)) (t : IsBestOf net first others best) where
  own : IsCertificate rows net first
  own = All-head (IsCertificate rows net) first others h

  given : All (IsCertificateOf net.net) (first ∷ others)
  given = All-weaker (IsCertificate rows net) (IsCertificateOf net.net) (given_of rows net) (first ∷ others) h

  pub better_of : IsBetter net.net first others best
  better_of = tightened-best net.net (go_both_ways net.options.links) first others best own.network (ways_of rows net own.names) given t

  pub best_fits : FitsProof (sheet_of rows net) best
  best_fits =
      let sheet = sheet_of rows net in
      let both = go_both_ways net.options.links in
      let size = sized rows own.names.options net own.names.scaled in
      let is = t.made.fits in
      let valid = better_of.given.valid in
      let small = tightened-small net.net both first others best (All-weaker (IsCertificate rows net) (λ (p : Proof). IsSmall p.dual) (λ p c. small_of sheet p c.fits) (first ∷ others) h) t in
      record {
        gap = is.gap;
        routing = routing-kept (FitsRouting sheet) net.net both first others best
            (All-weaker (IsCertificate rows net) (λ (p : Proof). FitsRouting sheet p.routing) (λ p c. c.fits.routing) (first ∷ others) h) t;
        lower = lower-fits net.net best.routing best.lower is.routing valid.printed.lower is.lower_micro;
        upper = upper-fits net.net best.dual best.upper own.network (record { lengths = small.lengths; potentials = small.potentials })
            (divides (upper_of net.net best.dual).den valid.distance.divides) valid.printed.upper is.upper_micro;
        lengths = each (FitsLength sheet) best.dual.lengths (λ i d l. length-fits sheet net.net _ size (is.lengths i d l) (small.lengths i d l));
        potentials = each (FitsPotential sheet) best.dual.potentials (λ i d l. potential-fits sheet net.net _ size (is.potentials i d l) (small.potentials i d l));
      }

  -- it is a certificate as those are
  pub best_certificate : IsCertificate rows net best
  best_certificate = record {
    names = own.names;
    network = own.network;
    proof_of = t.made.fits;
    valid = better_of.given.valid;
    certified = valid_certifies net.net best better_of.given.valid;
    fits = best_fits;
    counted = own.counted;
  }

-- ---- what is answered

-- out of memory, or the best of both, answers behind a valid second certificate
pub both_came : (rows : NetRows) (net : ScaledNet) (first second : Proof) (text : List ℕ) (answer : Answer) → IsSecondText rows net.options text (with_net net (Valid second))
    → OrWant (WritesBest rows net first (second ∷ [])) answer → OrWant (OnSecond rows net first text) answer
both_came rows net first second text answer is (inl memory) = inl memory
both_came rows net first second text answer is (inr writes) = inr (Valid second, is, writes)
