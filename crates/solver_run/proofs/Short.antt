-- A least walk over cells of positive length comes to no node twice, so it is short.
use Rattle.std.proofs.Common.{◌≡◌, inl, inr, ℕ, suc, ◌+◌, ◌<◌, ◌≤◌, List, [], ◌∷◌, true, false, eqb, Some, length, get_or, refl, sym, ap, subst, ◌∙◌, arith}
use Rattle.std.specs.Prelude.{slice_get}
use Rattle.std.specs.List.{IsDistinct, AllByRecursion, list_any}
use Rattle.std.proofs.lemmas.Bool.{cases_eq, eq-eqb, ne_eqb}
use Rattle.std.proofs.lemmas.List.Sums.{sum_by-cons}
use Rattle.std.proofs.lemmas.Map.Keys.{IsDistinct-cons}
use Rattle.std.proofs.lemmas.Map.Steps.{length-le_from_distinct_below}
use Rattle.flow_model.specs.declared.net.Cell.{Cell}
use Rattle.flow_model.specs.Network.{Network, IsNetwork}
use Rattle.flow_model.specs.Walk.{PositiveWalk}
use Rattle.flow_model.specs.Bound.{walk_length}
use Rattle.flow_model.specs.Least.{IsLeastWalk}
use Rattle.dijkstra_paths.proofs.Relaxed.{pass-inside}

-- each positive cell has a length of at least 1
abbrev pub AreLong : List Cell → List ℕ → Type 0
AreLong cells lengths = (c : ℕ) (cell : Cell) → slice_get cells c ≡ Some cell → 1 ≤ cell.cap → 1 ≤ get_or lengths c 0

length-first : (lengths : List ℕ) (c : ℕ) (walk : List ℕ) → walk_length lengths (c ∷ walk) ≡ get_or lengths c 0 + walk_length lengths walk
length-first lengths c walk = sum_by-cons (λ d. get_or lengths d 0) c walk

-- the nodes that a walk comes to, from the first on
abbrev nodes_of : (cells : List Cell) (u v : ℕ) (walk : List ℕ) → PositiveWalk cells u v walk → List ℕ
nodes_of cells u v [] w = u ∷ []
nodes_of cells u v (c ∷ walk) w = u ∷ nodes_of cells w.0 v walk w.2

nodes-count : (cells : List Cell) (u v : ℕ) (walk : List ℕ) (w : PositiveWalk cells u v walk) → length (nodes_of cells u v walk w) ≡ suc (length walk)
nodes-count cells u v [] w = refl
nodes-count cells u v (c ∷ walk) w = ap suc (nodes-count cells w.0 v walk w.2)

-- from a node of the walk on there is a walk that is no longer
go-on : (cells : List Cell) (lengths : List ℕ) (u v : ℕ) (walk : List ℕ) (w : PositiveWalk cells u v walk) (y : ℕ) → list_any (eqb y) (nodes_of cells u v walk w) ≡ true
    → (other : List ℕ) × PositiveWalk cells y v other × (walk_length lengths other ≤ walk_length lengths walk)
go-on cells lengths u v [] w y h = elim (cases_eq y u) [
  | inl e ↦ ([], e ∙ w, omega arith)
  | inr n ↦ let off : false ≡ true = rw (ne_eqb y u n) at h in absurd cc
]
go-on cells lengths u v (c ∷ walk) w y h = elim (cases_eq y u) [
  | inl e ↦ (c ∷ walk, subst (λ (n : ℕ). PositiveWalk cells n v (c ∷ walk)) (sym e) w, omega arith)
  | inr n ↦
      let rest : list_any (eqb y) (nodes_of cells w.0 v walk w.2) ≡ true = rw (ne_eqb y u n) at h in
      let r = go-on cells lengths w.0 v walk w.2 y rest in
      (r.0, r.1, omega (arith, r.2, length-first lengths c walk))
]

fresh : (u : ℕ) (xs : List ℕ) → (list_any (eqb u) xs ≡ true → ⊥) → AllByRecursion (λ y. eqb u y ≡ false) xs
fresh u [] h = tt
fresh u (x ∷ xs) h = elim (cases_eq u x) [
  | inl e ↦ absurd (h (rw (eq-eqb u x e) refl))
  | inr n ↦ (ne_eqb u x n, fresh u xs (λ r. h (rw (ne_eqb u x n) r)))
]

one-differs : (u : ℕ) → IsDistinct eqb (u ∷ [])
unfolding IsDistinct
one-differs u = (tt, tt)

distinct : (cells : List Cell) (lengths : List ℕ) (u v : ℕ) (walk : List ℕ) → AreLong cells lengths → (w : PositiveWalk cells u v walk)
    → ((other : List ℕ) → PositiveWalk cells u v other → walk_length lengths walk ≤ walk_length lengths other) → IsDistinct eqb (nodes_of cells u v walk w)
distinct cells lengths u v [] long w least = one-differs u
distinct cells lengths u v (c ∷ walk) long w least =
    let first = length-first lengths c walk in
    let some : 1 ≤ get_or lengths c 0 = long c w.1.0 w.1.1 w.1.2 in
    IsDistinct-cons eqb u (nodes_of cells w.0 v walk w.2)
    (fresh u (nodes_of cells w.0 v walk w.2) (λ back. let r = go-on cells lengths w.0 v walk w.2 u back in absurd (omega (arith, first, some, r.2, least r.0 r.1))))
    (distinct cells lengths w.0 v walk long w.2 (λ other o. omega (arith, first, length-first lengths c other, least (c ∷ other) (w.0, w.1, o))))

nodes-inside : (net : Network) (u v : ℕ) (walk : List ℕ) (w : PositiveWalk net.cells u v walk) → IsNetwork net → u < net.nodes → (q : ℕ) → list_any (eqb q) (nodes_of net.cells u v walk w) ≡ true → q < net.nodes
nodes-inside net u v [] w n l q h = elim (cases_eq q u) [
  | inl e ↦ omega arith
  | inr ne ↦ let off : false ≡ true = rw (ne_eqb q u ne) at h in absurd cc
]
nodes-inside net u v (c ∷ walk) w n l q h = elim (cases_eq q u) [
  | inl e ↦ omega arith
  | inr ne ↦ nodes-inside net w.0 v walk w.2 n (pass-inside net c u w.0 n w.1).0 q (rw (ne_eqb q u ne) at h)
]

-- a least walk has fewer cells than there are nodes
pub least-short : (net : Network) (lengths : List ℕ) (u v : ℕ) (walk : List ℕ) → IsNetwork net → AreLong net.cells lengths → u < net.nodes → IsLeastWalk net.cells lengths u v walk → length walk < net.nodes
least-short net lengths u v walk n long l least =
    let w = least.walks in
    omega (arith, nodes-count net.cells u v walk w, length-le_from_distinct_below (nodes_of net.cells u v walk w) net.nodes (distinct net.cells lengths u v walk long w least.least) (nodes-inside net u v walk w n l))
