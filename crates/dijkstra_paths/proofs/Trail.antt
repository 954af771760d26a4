-- The steps that lead to a reached node.
use Rattle.std.proofs.Common.{◌≡◌, ◌≢◌, ◌⊎◌, inl, inr, ℕ, zero, suc, ◌<◌, ◌≤◌, List, [], ◌∷◌, ◌++◌, Some, length, get_or, refl, sym, ap, subst, ◌∙◌, arith, length-append}
use Rattle.std.specs.Prelude.{Contains, slice_get}
use Rattle.std.proofs.lemmas.Bool.{cases_eq, eq-eqb, ne_eqb}
use Rattle.std.proofs.lemmas.List.Elements.{Contains-push_cases}
use Rattle.flow_model.specs.declared.net.Cell.{Cell}
use Rattle.flow_model.specs.Network.{Network}
use Rattle.flow_model.specs.Walk.{Goes, PassesOver, PositiveWalk}
use Rattle.flow_model.specs.Bound.{walk_length}
use Rattle.dijkstra_paths.specs.declared.search.Step.{Step}
use Rattle.dijkstra_paths.specs.Tree.{step_at, IsReached}
use Rattle.dijkstra_paths.specs.Searched.{trail}
use Rattle.dijkstra_paths.proofs.Least.{IsFound, rank, rank-step, step-exact, length-more}
use Rattle.dijkstra_paths.proofs.Spreading.{walk-more}
use Rattle.mcf_limits.specs.declared.TheConstants.{MAX_LENGTH}

-- at the first node there is no step
pub trail-first : (via : List Step) (from fuel v : ℕ) → v ≡ from → trail via from fuel v ≡ []
unfolding trail
trail-first via from zero v e = refl
trail-first via from (suc fuel) v e = rw (eq-eqb v from e) refl

-- elsewhere the last step is the node's
pub trail-next : (via : List Step) (from fuel v : ℕ) → v ≢ from → trail via from (suc fuel) v ≡ trail via from fuel (step_at via v).from ++ (step_at via v).cell ∷ []
unfolding trail
trail-next via from fuel v n = rw (ne_eqb v from n) refl

-- they are a walk of the node's distance
pub trail-walk : (fuel : ℕ) (net : Network) (lengths : List ℕ) (from : ℕ) (dist : List ℕ) (via : List Step) → IsFound net lengths from dist via
    → (v : ℕ) → v < net.nodes → get_or dist v 0 < MAX_LENGTH → rank dist (get_or dist v 0) < fuel
    → PositiveWalk net.cells from v (trail via from fuel v) × (walk_length lengths (trail via from fuel v) ≡ get_or dist v 0) × (length (trail via from fuel v) ≤ rank dist (get_or dist v 0))
trail-walk zero net lengths from dist via f v l near less = absurd (omega arith)
trail-walk (suc fuel) net lengths from dist via f v l near less = elim (cases_eq v from) [
  | inl e ↦ rw (trail-first via from (suc fuel) v e) (sym e, sym (ap (λ (n : ℕ). get_or dist n 0) e ∙ f.tree.start), omega arith)
  | inr n ↦
      let s = step_at via v in
      let r : IsReached net.cells lengths dist s v = f.tree.reached v (omega (arith, f.nodes)) n near in
      let exact = step-exact net lengths from dist via f v l n near in
      let grows = rank-step net lengths from dist via f v l n near in
      let w = trail-walk fuel net lengths from dist via f s.from (omega (arith, r.before, f.nodes)) (omega (arith, exact.0)) (omega (arith, grows)) in
      rw (trail-next via from fuel v n) (
        walk-more net.cells from s.from v s.cell (trail via from fuel s.from) w.0 r.passes,
        length-more lengths s.cell (trail via from fuel s.from) ∙ omega (arith, w.1, exact.0),
        omega (arith, length-append (trail via from fuel s.from) (s.cell ∷ []), w.2, grows),
      )
]

-- the cell goes between nodes that are no further than this
abbrev Within : List Cell → List ℕ → ℕ → ℕ → Type 0
Within cells dist far c = (x : ℕ) × (y : ℕ) × PassesOver cells c x y × (get_or dist x 0 ≤ far) × (get_or dist y 0 ≤ far)

trail-within : (fuel : ℕ) (net : Network) (lengths : List ℕ) (from : ℕ) (dist : List ℕ) (via : List Step) → IsFound net lengths from dist via
    → (v : ℕ) → v < net.nodes → get_or dist v 0 < MAX_LENGTH → rank dist (get_or dist v 0) < fuel → (c : ℕ) → Contains (trail via from fuel v) c → Within net.cells dist (get_or dist v 0) c
trail-within zero net lengths from dist via f v l near less c h = absurd (omega arith)
trail-within (suc fuel) net lengths from dist via f v l near less c h = elim (cases_eq v from) [
  | inl e ↦
      let none = subst (λ (xs : List ℕ). Contains xs c) (trail-first via from (suc fuel) v e) h in
      absurd (omega (arith, none.1))
  | inr n ↦
      let s = step_at via v in
      let r : IsReached net.cells lengths dist s v = f.tree.reached v (omega (arith, f.nodes)) n near in
      let exact = step-exact net lengths from dist via f v l n near in
      let grows = rank-step net lengths from dist via f v l n near in
      elim (Contains-push_cases (trail via from fuel s.from) s.cell c (subst (λ (xs : List ℕ). Contains xs c) (trail-next via from fuel v n) h)) [
        | inl q ↦
            let w = trail-within fuel net lengths from dist via f s.from (omega (arith, r.before, f.nodes)) (omega (arith, exact.0)) (omega (arith, grows)) c q in
            (w.0, w.1, w.2, omega (arith, w.3, exact.0), omega (arith, w.4, exact.0))
        | inr q ↦ (s.from, v, subst (λ (k : ℕ). PassesOver net.cells k s.from v) q r.passes, omega (arith, exact.0), omega arith)
      ]
]

same-cell : (cells : List Cell) (c : ℕ) (a b : Cell) → slice_get cells c ≡ Some a → slice_get cells c ≡ Some b → a ≡ b
same-cell cells c a b p q = cc

same-ends : (cell : Cell) (u v x y : ℕ) → Goes cell u v → Goes cell x y → (v ≡ x) ⊎ (v ≡ y)
same-ends cell u v x y (inl p) (inl q) = inr (p.1 ∙ sym q.1)
same-ends cell u v x y (inl p) (inr q) = inl (p.1 ∙ sym q.1)
same-ends cell u v x y (inr p) (inl q) = inl (p.2 ∙ sym q.0)
same-ends cell u v x y (inr p) (inr q) = inr (p.2 ∙ sym q.2)

-- the last step's cell is none of those before
pub trail-fresh : (fuel : ℕ) (net : Network) (lengths : List ℕ) (from : ℕ) (dist : List ℕ) (via : List Step) → IsFound net lengths from dist via
    → (v : ℕ) → v < net.nodes → v ≢ from → get_or dist v 0 < MAX_LENGTH → rank dist (get_or dist (step_at via v).from 0) < fuel → Contains (trail via from fuel (step_at via v).from) (step_at via v).cell → ⊥
trail-fresh fuel net lengths from dist via f v l n near less h =
    let s = step_at via v in
    let r : IsReached net.cells lengths dist s v = f.tree.reached v (omega (arith, f.nodes)) n near in
    let exact = step-exact net lengths from dist via f v l n near in
    let w = trail-within fuel net lengths from dist via f s.from (omega (arith, r.before, f.nodes)) (omega (arith, exact.0)) less s.cell h in
    let same = same-cell net.cells s.cell w.2.0 r.passes.0 w.2.1 r.passes.1 in
    let goes : Goes r.passes.0 w.0 w.1 = subst (λ (k : Cell). Goes k w.0 w.1) same w.2.3 in
    elim (same-ends r.passes.0 s.from v w.0 w.1 r.passes.3 goes) [
      | inl e ↦ omega (arith, ap (λ (k : ℕ). get_or dist k 0) e, w.3, exact.0, exact.1)
      | inr e ↦ omega (arith, ap (λ (k : ℕ). get_or dist k 0) e, w.4, exact.0, exact.1)
    ]
