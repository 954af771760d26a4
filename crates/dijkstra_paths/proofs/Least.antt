-- From the tree of steps to least walks.
use Rattle.std.proofs.Common.{◌≡◌, ◌≢◌, inl, inr, ℕ, zero, suc, ◌+◌, ◌-◌, ◌*◌, ◌^◌, ◌<◌, ◌≤◌, List, [], ◌∷◌, ◌++◌, cond, length, get_or, refl, sym, ap, subst, ◌∙◌, arith, ltb}
use Rattle.std.proofs.Math.Nat.{mul-le-mul_right, le_trans}
use Rattle.std.proofs.lemmas.List.Sums.{sum_by-cons, sum_by_push}
use Rattle.std.proofs.lemmas.Bool.{cases_eq, cases_lt, lt-ltb, le-ltb}
use Rattle.flow_model.specs.Network.{Network, IsNetwork}
use Rattle.flow_model.specs.Lengths.{AreLengths}
use Rattle.flow_model.specs.Walk.{PassesOver, PositiveWalk}
use Rattle.flow_model.specs.Bound.{walk_length}
use Rattle.dijkstra_paths.specs.declared.search.Step.{Step}
use Rattle.dijkstra_paths.specs.Tree.{step_at, IsReached, IsTree, IsDone}
use Rattle.dijkstra_paths.proofs.Relaxed.{pass-inside}
use Rattle.dijkstra_paths.proofs.Spreading.{walk-more}
use Rattle.mcf_limits.specs.declared.TheConstants.{MAX_LENGTH, MAX_NODES}

-- what a search has found
pub record IsFound (net : Network) (lengths : List ℕ) (from : ℕ) (dist : List ℕ) (steps : List Step) : Type 0 where
  pub fits : IsNetwork net
  pub long : AreLengths net.cells lengths
  pub nodes : length dist ≡ net.nodes
  pub first : from < net.nodes
  pub tree : IsTree net.cells lengths from dist steps
  pub done : (u : ℕ) → u < length dist → get_or dist u 0 < MAX_LENGTH → IsDone net.cells lengths dist u

pub length-more : (lengths : List ℕ) (c : ℕ) (walk : List ℕ) → walk_length lengths (walk ++ c ∷ []) ≡ walk_length lengths walk + get_or lengths c 0
length-more lengths c walk = sum_by_push (λ d. get_or lengths d 0) walk c

pub length-first : (lengths : List ℕ) (c : ℕ) (walk : List ℕ) → walk_length lengths (c ∷ walk) ≡ get_or lengths c 0 + walk_length lengths walk
length-first lengths c walk = sum_by-cons (λ d. get_or lengths d 0) c walk

-- no walk from a reached node is shorter than what is known
pub walk-bound : (net : Network) (lengths : List ℕ) (from : ℕ) (dist : List ℕ) (steps : List Step) → IsFound net lengths from dist steps
    → (walk : List ℕ) (u v : ℕ) → u < net.nodes → v < net.nodes → get_or dist u 0 < MAX_LENGTH → PositiveWalk net.cells u v walk → get_or dist v 0 ≤ get_or dist u 0 + walk_length lengths walk
walk-bound net lengths from dist steps f [] u v lu lv near w = omega (arith, ap (λ (n : ℕ). get_or dist n 0) w)
walk-bound net lengths from dist steps f (c ∷ walk) u v lu lv near w =
    let x = w.0 in
    let step : get_or dist x 0 ≤ get_or dist u 0 + get_or lengths c 0 = f.done u (omega (arith, f.nodes)) near c x w.1 in
    let whole = length-first lengths c walk in
    elim (cases_lt (get_or dist x 0) MAX_LENGTH) [
      | inl q ↦ omega (arith, whole, step, walk-bound net lengths from dist steps f walk x v (pass-inside net c u x f.fits w.1).0 lv q w.2)
      | inr q ↦ omega (arith, whole, step, f.tree.bound v (omega (arith, f.nodes)))
    ]

-- the step to a reached node is exactly as long as the distances say
pub step-exact : (net : Network) (lengths : List ℕ) (from : ℕ) (dist : List ℕ) (steps : List Step) → IsFound net lengths from dist steps
    → (v : ℕ) → v < net.nodes → v ≢ from → get_or dist v 0 < MAX_LENGTH
    → (get_or dist v 0 ≡ get_or dist (step_at steps v).from 0 + get_or lengths (step_at steps v).cell 0) × (1 ≤ get_or lengths (step_at steps v).cell 0) × (get_or lengths (step_at steps v).cell 0 ≤ 2 ^ 52)
step-exact net lengths from dist steps f v l apart near =
    let r : IsReached net.cells lengths dist (step_at steps v) v = f.tree.reached v (omega (arith, f.nodes)) apart near in
    let p = r.passes in
    let low : 1 ≤ get_or lengths (step_at steps v).cell 0 = f.long.low (step_at steps v).cell p.0 p.1 p.2 in
    let high : get_or lengths (step_at steps v).cell 0 ≤ 2 ^ 52 = f.long.high (step_at steps v).cell p.0 p.1 p.2 in
    let back : get_or dist v 0 ≤ get_or dist (step_at steps v).from 0 + get_or lengths (step_at steps v).cell 0 = f.done (step_at steps v).from r.before (omega (arith, r.far)) (step_at steps v).cell v p in
    (omega (arith, r.far, back), low, high)

-- a reached node has a walk as long as its distance
pub walk-by : (fuel : ℕ) (net : Network) (lengths : List ℕ) (from : ℕ) (dist : List ℕ) (steps : List Step) → IsFound net lengths from dist steps
    → (v : ℕ) → v < net.nodes → get_or dist v 0 < MAX_LENGTH → get_or dist v 0 < fuel → (walk : List ℕ) × PositiveWalk net.cells from v walk × (walk_length lengths walk ≡ get_or dist v 0)
walk-by zero net lengths from dist steps f v l near less = absurd (omega arith)
walk-by (suc fuel) net lengths from dist steps f v l near less = elim (cases_eq v from) [
  | inl e ↦ ([], sym e, sym (ap (λ (n : ℕ). get_or dist n 0) e ∙ f.tree.start))
  | inr n ↦
      let s = step_at steps v in
      let r : IsReached net.cells lengths dist s v = f.tree.reached v (omega (arith, f.nodes)) n near in
      let exact = step-exact net lengths from dist steps f v l n near in
      let w = walk-by fuel net lengths from dist steps f s.from (omega (arith, r.before, f.nodes)) (omega (arith, exact.0)) (omega (arith, exact.0, exact.1)) in
      (w.0 ++ s.cell ∷ [], walk-more net.cells from s.from v s.cell w.0 w.1 r.passes, length-more lengths s.cell w.0 ∙ omega (arith, w.2, exact.0))
]

-- how many distances are below a number
abbrev pub rank : List ℕ → ℕ → ℕ
rank [] b = 0
rank (x ∷ xs) b = cond (ltb x b) 1 0 + rank xs b

one-le : (x a b : ℕ) → a ≤ b → cond (ltb x a) 1 0 ≤ cond (ltb x b) 1 0
one-le x a b h = elim (cases_lt x a) [
  | inl p ↦ rw (lt-ltb x a p, lt-ltb x b (omega arith)) (omega arith)
  | inr p ↦ rw (le-ltb x a p) (omega arith)
]

one-small : (x a : ℕ) → cond (ltb x a) 1 0 ≤ 1
one-small x a = elim (cases_lt x a) [ inl p ↦ rw (lt-ltb x a p) (omega arith) | inr p ↦ rw (le-ltb x a p) (omega arith) ]

rank-le : (xs : List ℕ) (a b : ℕ) → a ≤ b → rank xs a ≤ rank xs b
rank-le [] a b h = omega arith
rank-le (x ∷ xs) a b h = omega (arith, one-le x a b h, rank-le xs a b h)

-- it grows where one more is below
rank-grows : (xs : List ℕ) (i a b : ℕ) → i < length xs → get_or xs i 0 ≡ a → a < b → rank xs a + 1 ≤ rank xs b
rank-grows [] i a b l e h = absurd (omega arith)
rank-grows (x ∷ xs) zero a b l e h =
    rw (lt-ltb x b (omega arith), le-ltb x a (omega arith)) (omega (arith, rank-le xs a b (omega arith)))
rank-grows (x ∷ xs) (suc i) a b l e h =
    omega (arith, one-le x a b (omega arith), rank-grows xs i a b (omega arith) e h)

rank-max : (xs : List ℕ) (a : ℕ) → rank xs a ≤ length xs
rank-max [] a = omega arith
rank-max (x ∷ xs) a = omega (arith, one-small x a, rank-max xs a)

-- a distance itself is not below it
pub rank-few : (xs : List ℕ) (i a : ℕ) → i < length xs → get_or xs i 0 ≡ a → rank xs a + 1 ≤ length xs
rank-few [] i a l e = absurd (omega arith)
rank-few (x ∷ xs) zero a l e = rw (le-ltb x a (omega arith)) (omega (arith, rank-max xs a))
rank-few (x ∷ xs) (suc i) a l e = omega (arith, one-small x a, rank-few xs i a (omega arith) e)

-- the step to a node goes from one of lower rank
pub rank-step : (net : Network) (lengths : List ℕ) (from : ℕ) (dist : List ℕ) (steps : List Step) → IsFound net lengths from dist steps
    → (v : ℕ) → v < net.nodes → v ≢ from → get_or dist v 0 < MAX_LENGTH → rank dist (get_or dist (step_at steps v).from 0) + 1 ≤ rank dist (get_or dist v 0)
rank-step net lengths from dist steps f v l apart near =
    let r : IsReached net.cells lengths dist (step_at steps v) v = f.tree.reached v (omega (arith, f.nodes)) apart near in
    let exact = step-exact net lengths from dist steps f v l apart near in
    rank-grows dist (step_at steps v).from (get_or dist (step_at steps v).from 0) (get_or dist v 0) r.before refl (omega (arith, exact.0, exact.1))

dist-rank : (fuel : ℕ) (net : Network) (lengths : List ℕ) (from : ℕ) (dist : List ℕ) (steps : List Step) → IsFound net lengths from dist steps
    → (v : ℕ) → v < net.nodes → get_or dist v 0 < MAX_LENGTH → rank dist (get_or dist v 0) < fuel → get_or dist v 0 ≤ rank dist (get_or dist v 0) * 2 ^ 52
dist-rank zero net lengths from dist steps f v l near less = absurd (omega arith)
dist-rank (suc fuel) net lengths from dist steps f v l near less = elim (cases_eq v from) [
  | inl e ↦ omega (arith, ap (λ (n : ℕ). get_or dist n 0) e, f.tree.start)
  | inr n ↦
      let s = step_at steps v in
      let r : IsReached net.cells lengths dist s v = f.tree.reached v (omega (arith, f.nodes)) n near in
      let exact = step-exact net lengths from dist steps f v l n near in
      let grows = rank-step net lengths from dist steps f v l n near in
      let before = dist-rank fuel net lengths from dist steps f s.from (omega (arith, r.before, f.nodes)) (omega (arith, exact.0)) (omega (arith, grows)) in
      omega (arith, exact.0, exact.2, before, mul-le-mul_right (2 ^ 52) grows)
]

-- a reached node is at most MAX_NODES - 1 times 2 ^ 52 away
pub dist-small : (net : Network) (lengths : List ℕ) (from : ℕ) (dist : List ℕ) (steps : List Step) → IsFound net lengths from dist steps
    → (v : ℕ) → v < net.nodes → get_or dist v 0 < MAX_LENGTH → get_or dist v 0 ≤ (MAX_NODES - 1) * 2 ^ 52
dist-small net lengths from dist steps f v l near =
    let few : rank dist (get_or dist v 0) ≤ MAX_NODES - 1 = omega (arith, rank-few dist v (get_or dist v 0) (omega (arith, f.nodes)) refl, f.fits.nodes, f.nodes) in
    le_trans (dist-rank (suc (rank dist (get_or dist v 0))) net lengths from dist steps f v l near (omega arith)) (mul-le-mul_right (2 ^ 52) few)

-- a way from a reached node reaches a node
pub way-reaches : (net : Network) (lengths : List ℕ) (from : ℕ) (dist : List ℕ) (steps : List Step) → IsFound net lengths from dist steps
    → (c u x : ℕ) → u < net.nodes → get_or dist u 0 < MAX_LENGTH → PassesOver net.cells c u x → get_or dist x 0 < MAX_LENGTH
way-reaches net lengths from dist steps f c u x l near p =
    omega (arith, dist-small net lengths from dist steps f u l near, f.done u (omega (arith, f.nodes)) near c x p, f.long.high c p.0 p.1 p.2)

pub walk-reaches : (net : Network) (lengths : List ℕ) (from : ℕ) (dist : List ℕ) (steps : List Step) → IsFound net lengths from dist steps
    → (walk : List ℕ) (u v : ℕ) → u < net.nodes → get_or dist u 0 < MAX_LENGTH → PositiveWalk net.cells u v walk → get_or dist v 0 < MAX_LENGTH
walk-reaches net lengths from dist steps f [] u v l near w = subst (λ (n : ℕ). get_or dist n 0 < MAX_LENGTH) w near
walk-reaches net lengths from dist steps f (c ∷ walk) u v l near w =
    walk-reaches net lengths from dist steps f walk w.0 v (pass-inside net c u w.0 f.fits w.1).0 (way-reaches net lengths from dist steps f c u w.0 l near w.1) w.2
