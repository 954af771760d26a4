-- Distances and marks of a cut as potentials.
use Rattle.std.proofs.Common.{◌≡◌, ◌≢◌, inl, inr, ℕ, zero, suc, ◌+◌, ◌*◌, ◌-◌, ◌<◌, ◌≤◌, List, [], ◌∷◌, ◌++◌, eqb, length, get_or, map, Option, Some, None, refl, ap, subst, ◌∙◌, arith}
use Rattle.std.specs.Prelude.{find, slice_get}
use Rattle.std.specs.Option.{option_map_or}
use Rattle.std.proofs.lemmas.List.Sums.{get_or-le-sum_by}
use Rattle.std.proofs.lemmas.Option.{slice_get_within, get_or_from_slice_get}
use Rattle.std.proofs.lemmas.Bool.{cases_eq, eq-eqb, ne_eqb}
use Rattle.std.proofs.Math.Nat.{mul-le-mul}
use Rattle.flow_model.specs.declared.net.Cell.{Cell}
use Rattle.flow_model.specs.declared.net.Commodity.{Commodity}
use Rattle.flow_model.specs.Network.{Network, IsNetwork, IsCell, IsCommodity}
use Rattle.flow_model.specs.Walk.{Goes, PassesOver, PositiveWalk}
use Rattle.flow_model.specs.Bound.{IsPotential, volume, walk_length, weighted_distance}
use Rattle.flow_model.specs.Least.{IsCutOff, IsJoined, IsLeast, far_or}
use Rattle.flow_model.specs.Lengths.{AreLengths}
use Rattle.fixed_exp.specs.Far.{EmptyAreFar}
use Rattle.flow_paths.specs.DualRows.{Potential}
use Rattle.flow_paths.specs.Certificate.{distance_of}
use Rattle.mcf_limits.specs.declared.TheConstants.{MAX_LENGTH}
use Rattle.dijkstra_paths.proofs.Spreading.{walk-more}
use Rattle.dijkstra_paths.proofs.Least.{length-more, length-first}
use Rattle.dual_bound.specs.Bounds.{IsRowWith, IsDistance, IsCutPotential, cut_lengths}
use Rattle.flow_paths.proofs.Products.{weighted_sum-map}

-- over a positive cell a distance grows by at most the cell's length
step : (cells : List Cell) (lengths : List ℕ) (from u v c : ℕ) (a b : Option ℕ) → IsLeast cells lengths from u a → IsLeast cells lengths from v b → PassesOver cells c u v → far_or b ≤ MAX_LENGTH → far_or b ≤ far_or a + get_or lengths c 0
step cells lengths from u v c None b p q w l = omega arith
step cells lengths from u v c (Some d) None p q w l = absurd (q (p.0.0 ++ c ∷ []) (walk-more cells from u v c p.0.0 p.0.1 w))
step cells lengths from u v c (Some d) (Some e) p q w l =
    let least = q.1 (p.0.0 ++ c ∷ []) (walk-more cells from u v c p.0.0 p.0.1 w) in
    omega (arith, least, length-more lengths c p.0.0, p.0.2)

-- the ends of a cell are nodes
ends : (net : Network) (c : ℕ) (cell : Cell) (u v : ℕ) → IsNetwork net → slice_get net.cells c ≡ Some cell → Goes cell u v → (u < net.nodes) × (v < net.nodes)
ends net c cell u v n at (inl g) =
    let within = slice_get_within net.cells c cell at in
    let is : get_or net.cells c cell ≡ cell = get_or_from_slice_get net.cells c cell cell at in
    let fits : IsCell net.nodes cell = subst (λ (k : Cell). IsCell net.nodes k) is (n.cells c cell within) in
    (omega (arith, fits.tail), omega (arith, fits.head))
ends net c cell u v n at (inr g) =
    let within = slice_get_within net.cells c cell at in
    let is : get_or net.cells c cell ≡ cell = get_or_from_slice_get net.cells c cell cell at in
    let fits : IsCell net.nodes cell = subst (λ (k : Cell). IsCell net.nodes k) is (n.cells c cell within) in
    (omega (arith, fits.head), omega (arith, fits.tail))

-- distances are potentials, over cells without capacity too
pub distances-are : (net : Network) (lengths values : List ℕ) (from : ℕ) → IsNetwork net → EmptyAreFar net.cells lengths → ((v : ℕ) → v < net.nodes → IsDistance net.cells lengths from v (get_or values v 0))
    → ((v : ℕ) → v < net.nodes → get_or values v 0 ≤ MAX_LENGTH) → IsPotential net.cells lengths values
distances-are net lengths values from n far h small = λ c cell u v at goes.
    let inside = ends net c cell u v n at goes in
    elim (cases_eq cell.cap 0) [
      | inl e ↦ omega (arith, far.each c cell at e, small v inside.1)
      | inr ne ↦
          let a = h u inside.0 in
          let b = h v inside.1 in
          let cap : 1 ≤ cell.cap = omega arith in
          omega (arith, step net.cells lengths from u v c a.0 b.0 a.1 b.1 (cell, at, cap, goes) (subst (λ (x : ℕ). x ≤ MAX_LENGTH) b.2 (small v inside.1)), a.2, b.2)
    ]

-- so are the marks of a cut
mark : (cells : List Cell) (from u v : ℕ) (a b : ℕ) → IsCutPotential cells from u a → IsCutPotential cells from v b → (IsJoined cells from u → IsJoined cells from v) → b ≤ a
mark cells from u v a b (inl p) (inl q) w = omega (arith, q.1)
mark cells from u v a b (inl p) (inr q) w = let j = w p.0 in absurd (q.0 j.0 j.1)
mark cells from u v a b (inr p) (inl q) w = omega (arith, q.1)
mark cells from u v a b (inr p) (inr q) w = omega (arith, p.1, q.1)

mark-small : (cells : List Cell) (from v b : ℕ) → IsCutPotential cells from v b → b ≤ 1
mark-small cells from v b (inl p) = omega (arith, p.1)
mark-small cells from v b (inr p) = omega (arith, p.1)

cut-length : (cells : List Cell) (c : ℕ) (cell : Cell) → slice_get cells c ≡ Some cell → cell.cap ≡ 0 → get_or (cut_lengths cells) c 0 ≡ 1
cut-length [] c cell at e = absurd (none c cell at)
  where
    none : (c : ℕ) (cell : Cell) → slice_get [] c ≡ Some cell → ⊥
    none c cell at = cc
cut-length (x ∷ cells) zero cell at e =
    let is : x ≡ cell = cc in
    let empty : x.cap ≡ 0 = ap (λ (k : Cell). k.cap) is ∙ e in
    rw (eq-eqb x.cap 0 empty) refl
cut-length (x ∷ cells) (suc c) cell at e = cut-length cells c cell at e

pub marks-are : (net : Network) (values : List ℕ) (from : ℕ) → IsNetwork net → ((v : ℕ) → v < net.nodes → IsCutPotential net.cells from v (get_or values v 0)) → IsPotential net.cells (cut_lengths net.cells) values
marks-are net values from n h = λ c cell u v at goes.
    let inside = ends net c cell u v n at goes in
    elim (cases_eq cell.cap 0) [
      | inl e ↦ omega (arith, cut-length net.cells c cell at e, mark-small net.cells from v (get_or values v 0) (h v inside.1))
      | inr ne ↦
          let cap : 1 ≤ cell.cap = omega arith in
          omega (arith, mark net.cells from u v (get_or values u 0) (get_or values v 0) (h u inside.0) (h v inside.1) (λ j. (j.0 ++ c ∷ [], walk-more net.cells from u v c j.0 j.1 (cell, at, cap, goes))))
    ]

-- a node is 0 away from itself
self : (cells : List Cell) (lengths : List ℕ) (u : ℕ) (d : Option ℕ) → IsLeast cells lengths u u d → far_or d ≡ 0
self cells lengths u None p = absurd (p [] refl)
self cells lengths u (Some d) p = omega (arith, p.1 [] refl)

-- another is at least 1 away
apart : (cells : List Cell) (lengths : List ℕ) (u v : ℕ) (d : Option ℕ) → AreLengths cells lengths → u ≢ v → IsLeast cells lengths u v d → 1 ≤ far_or d
apart cells lengths u v None long ne p = omega arith
apart cells lengths u v (Some d) long ne p = omega (arith, go p.0.0 p.0.1, p.0.2)
  where
    go : (walk : List ℕ) → PositiveWalk cells u v walk → 1 ≤ walk_length lengths walk
    go [] w = absurd (ne w)
    go (c ∷ walk) w = omega (arith, length-first lengths c walk, long.low c w.1.0 w.1.1 w.1.2)

-- the distance of a commodity is positive
pub distance-positive : (net : Network) (lengths : List ℕ) (k : Commodity) (r : Potential) → AreLengths net.cells lengths → IsCommodity net.nodes k → r.node ≡ k.from → IsRowWith net.nodes (IsDistance net.cells lengths) r
    → 1 ≤ get_or r.values k.to 0 - get_or r.values k.from 0
distance-positive net lengths k r long fits is row =
    let there = row.each k.to fits.to in
    let here = row.each k.from fits.from in
    let zeroth = self net.cells lengths k.from here.0 (subst (λ (u : ℕ). IsLeast net.cells lengths u k.from here.0) is here.1) in
    let one = apart net.cells lengths k.from k.to there.0 long fits.apart (subst (λ (u : ℕ). IsLeast net.cells lengths u k.to there.0) is there.1) in
    omega (arith, here.2, there.2, zeroth, one)

mark-self : (cells : List Cell) (u a : ℕ) → IsCutPotential cells u u a → a ≡ 0
mark-self cells u a (inl p) = p.1
mark-self cells u a (inr p) = absurd (p.0 [] refl)

mark-cut : (cells : List Cell) (u v a : ℕ) → IsCutOff cells u v → IsCutPotential cells u v a → a ≡ 1
mark-cut cells u v a off (inl p) = absurd (off p.0.0 p.0.1)
mark-cut cells u v a off (inr p) = p.1

-- that of a commodity that is cut off is 1
pub cut-positive : (net : Network) (k : Commodity) (r : Potential) → IsCommodity net.nodes k → IsCutOff net.cells k.from k.to → r.node ≡ k.from → IsRowWith net.nodes (IsCutPotential net.cells) r
    → 1 ≤ get_or r.values k.to 0 - get_or r.values k.from 0
cut-positive net k r fits off is row =
    let there = row.each k.to fits.to in
    let here = row.each k.from fits.from in
    let zeroth = mark-self net.cells k.from (get_or r.values k.from 0) (subst (λ (u : ℕ). IsCutPotential net.cells u k.from (get_or r.values k.from 0)) is here) in
    let one = mark-cut net.cells k.from k.to (get_or r.values k.to 0) off (subst (λ (u : ℕ). IsCutPotential net.cells u k.to (get_or r.values k.to 0)) is there) in
    omega (arith, zeroth, one)

-- the distance by the row that was found
pub distance-by : (rows : List Potential) (k : Commodity) (r : Potential) → find (λ x. eqb x.node k.from) rows ≡ Some r → distance_of rows k ≡ get_or r.values k.to 0 - get_or r.values k.from 0
distance-by rows k r e = ap (λ (o : Option Potential). option_map_or (λ x. get_or x.values k.to 0 - get_or x.values k.from 0) o 0) e

-- one commodity with a distance makes the weighted distance positive
pub weighted-positive : (commodities : List Commodity) (rows : List Potential) (i : ℕ) (d : Commodity) → i < length commodities → 1 ≤ (get_or commodities i d).amount → 1 ≤ distance_of rows (get_or commodities i d)
    → 1 ≤ weighted_distance commodities (map (distance_of rows) commodities)
weighted-positive commodities rows i d l amount far =
    let part = get_or-le-sum_by (λ (k : Commodity). k.amount * distance_of rows k) commodities i d l in
    let product : 1 * 1 ≤ (get_or commodities i d).amount * distance_of rows (get_or commodities i d) = mul-le-mul amount far in
    omega (arith, part, product, weighted_sum-map (λ (k : Commodity). k.amount) (distance_of rows) commodities)

-- a cut has no volume
pub cut-volume : (cells : List Cell) → volume cells (cut_lengths cells) ≡ 0
cut-volume [] = refl
cut-volume (cell ∷ cells) = elim (cases_eq cell.cap 0) [
  | inl e ↦ rw (eq-eqb cell.cap 0 e) (omega (arith, cut-volume cells))
  | inr n ↦ rw (ne_eqb cell.cap 0 n) (omega (arith, cut-volume cells))
]
