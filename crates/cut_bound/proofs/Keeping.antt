-- What is tightened has a routing of those that were handed in, and lengths and potentials of them or of a cut.
use Rattle.std.proofs.Common.{ℕ, ◌+◌, ◌≤◌, ◌&&◌, List, [], ◌∷◌, ◌++◌, length, Bool, true, false, cond, get_or, sym, subst, arith}
use Rattle.std.specs.Prelude.{All, filter, map}
use Rattle.std.specs.List.{flat_map, range_with_len}
use Rattle.std.proofs.lemmas.List.Elements.{All-cons, All-head, All-map, All-tail}
use Rattle.mcf_limits.specs.declared.TheConstants.{MAX_LENGTH}
use Rattle.flow_model.specs.declared.net.Cell.{Cell}
use Rattle.flow_model.specs.Groups.{group_sources}
use Rattle.flow_model.specs.Network.{Network}
use Rattle.flow_paths.specs.DualRows.{Length, Potential, DualRows}
use Rattle.flow_paths.specs.declared.certificate.Proof.{Proof}
use Rattle.flow_paths.specs.declared.certificate.Routing.{Routing}
use Rattle.cut_bound.specs.Cuts.{Side, cut_dual, leaves, length_rows, side_lengths, side_potential, side_row}
use Rattle.cut_bound.specs.Candidates.{fronts, is_crossed, node_sides, rows_in, IsBestDual}
use Rattle.cut_bound.specs.Tightened.{duals, routings, IsTightened}
use Rattle.cut_bound.specs.Laws.{IsSmall, TightenedIsSmall}
use Rattle.cut_bound.proofs.Tightening.{greatest-has, least-has}

-- what is said of each routing is said of the one that is kept
pub routing-kept : (P : Routing → Type 0) (net : Network) (both : Bool) (first : Proof) (others : List Proof) (best : Proof)
    → All (λ (p : Proof). P p.routing) (first ∷ others) → IsTightened net both first others best → P best.routing
routing-kept P net both first others best h t =
    let all : All P (first.routing ∷ routings others) = All-map P (λ (p : Proof). p.routing) (first ∷ others) h in
    subst P (sym t.made.routing)
    (greatest-has P first.routing (routings others) (All-head P first.routing (routings others) all) (All-tail P first.routing (routings others) all))

-- what is said of each dual and of each cut is said of the best dual
best-kept : (P : DualRows → Type 0) (net : Network) (both : Bool) (own : List DualRows) (best : DualRows) → 1 ≤ length own → All P own
    → ((side : Side) → P (cut_dual net both side)) → IsBestDual net both own best → P best
best-kept P net both own best some h cuts is =
    let sides : List Side = flat_map (node_sides both) (range_with_len 0 net.nodes) ++ fronts (rows_in own) is.levels in
    let kept = filter (is_crossed net both) sides in
    subst P (sym is.best_is) (least-has net P own (map (cut_dual net both) kept) some h (All-map P (cut_dual net both) kept (λ i d l. cuts (get_or kept i d))))

-- ---- numbers of cuts

rows-small : (c : ℕ) (values : List ℕ) → All (λ v. v ≤ MAX_LENGTH) values → All (λ (r : Length). r.value ≤ MAX_LENGTH) (length_rows c values)
rows-small c [] h = λ i d l. absurd (omega arith)
rows-small c (v ∷ values) h =
    All-cons (λ (r : Length). r.value ≤ MAX_LENGTH) (record { cell = c; value = v }) (length_rows (c + 1) values)
    (All-head (λ n. n ≤ MAX_LENGTH) v values h) (rows-small (c + 1) values (All-tail (λ n. n ≤ MAX_LENGTH) v values h))

one-or-none : (b : Bool) → cond {A = ℕ} b 1 0 ≤ MAX_LENGTH
one-or-none true = omega arith
one-or-none false = omega arith

none-or-one : (b : Bool) → cond {A = ℕ} b 0 1 ≤ MAX_LENGTH
none-or-one true = omega arith
none-or-one false = omega arith

potential-small : (from on : Bool) (both : Bool) → cond from (cond {A = ℕ} on 0 1) (cond {A = ℕ} (both && on) 1 0) ≤ MAX_LENGTH
potential-small true on both = none-or-one on
potential-small false on both = one-or-none (both && on)

cut-small : (net : Network) (both : Bool) (side : Side) → IsSmall (cut_dual net both side)
cut-small net both side = record {
  lengths = rows-small 0 (side_lengths net side) (All-map (λ v. v ≤ MAX_LENGTH) (λ (cell : Cell). cond {A = ℕ} (leaves side cell) 1 0) net.cells (λ i d l. one-or-none (leaves side (get_or net.cells i d))));
  potentials = All-map (λ (r : Potential). All (λ p. p ≤ MAX_LENGTH) r.values) (side_row net both side) (group_sources net) (λ i d l.
      let source = get_or (group_sources net) i d in
      All-map (λ p. p ≤ MAX_LENGTH) (side_potential both side source) (range_with_len 0 net.nodes)
      (λ j e m. potential-small (side source) (side (get_or (range_with_len 0 net.nodes) j e)) both));
}

pub tightened-small : TightenedIsSmall
tightened-small net both first others best h t =
    let own : All IsSmall (duals (first ∷ others)) = All-map IsSmall (λ (p : Proof). p.dual) (first ∷ others) h in
    subst IsSmall (sym t.made.dual) (best-kept IsSmall net both (duals (first ∷ others)) t.dual (omega arith) own (cut-small net both) t.best_dual)
