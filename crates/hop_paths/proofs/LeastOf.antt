-- From whole layers to least walks.
use Rattle.std.proofs.Common.{◌≡◌, inl, inr, ℕ, zero, suc, ◌+◌, ◌*◌, ◌^◌, ◌<◌, ◌≤◌, List, Option, Some, None, [], ◌∷◌, ◌++◌, length, get_or, sym, ap, arith, length-append}
use Rattle.std.proofs.Math.Nat.{suc-mul}
use Rattle.std.proofs.lemmas.Bool.{cases_eq, cases_lt}
use Rattle.flow_model.specs.declared.net.Cell.{Cell}
use Rattle.flow_model.specs.Network.{Network, IsNetwork}
use Rattle.flow_model.specs.Lengths.{AreLengths}
use Rattle.flow_model.specs.Walk.{PassesOver, PositiveWalk}
use Rattle.flow_model.specs.Bound.{walk_length}
use Rattle.dijkstra_paths.specs.Searched.{known}
use Rattle.dijkstra_paths.proofs.Spreading.{walk-more}
use Rattle.dijkstra_paths.proofs.Least.{length-more, length-first}
use Rattle.dijkstra_paths.proofs.Relaxed.{pass-inside}
use Rattle.dijkstra_paths.proofs.Seen.{known-near, known-far}
use Rattle.hop_paths.specs.Allowed.{IsShortWalk, IsLeastOf}
use Rattle.std.specs.Prelude.{MatchOption, IfSome, IsSomeAnd}
use Rattle.std.specs.Option.{option_map, option_map_or}
use Rattle.hop_paths.specs.declared.search.HopStep.{HopStep}
use Rattle.hop_paths.specs.Searching.{step_at, IsOver, IsSearched}
use Rattle.hop_paths.specs.Searched.{hop_trail, IsShortPath}
use Rattle.hop_paths.proofs.Layering.{by_step}
use Rattle.hop_paths.proofs.Layered.{GoesBy, walk_within}
use Rattle.mcf_limits.specs.declared.TheConstants.{MAX_LENGTH, MAX_HOPS}

-- the number of a node in a layer
abbrev pub num : List ℕ → ℕ → ℕ → ℕ → ℕ
num dist nodes i v = get_or dist (i * nodes + v) 0

-- what a search by layers has found
pub record AreFound (net : Network) (lengths : List ℕ) (from : ℕ) (dist : List ℕ) (steps : List (Option HopStep)) (m : ℕ) : Type 0 where
  pub fits : IsNetwork net
  pub long : AreLengths net.cells lengths
  pub first : from < net.nodes
  pub searched : IsSearched net.cells lengths from net.nodes dist steps m

num-first : (dist : List ℕ) (nodes v : ℕ) → num dist nodes 0 v ≡ get_or dist v 0
num-first dist nodes v = let same : 0 * nodes + v ≡ v = omega arith in ap (λ (k : ℕ). get_or dist k 0) same

num-next : (dist : List ℕ) (nodes i v : ℕ) → num dist nodes (suc i) v ≡ get_or dist (i * nodes + nodes + v) 0
num-next dist nodes i v = let same : suc i * nodes + v ≡ i * nodes + nodes + v = omega (arith, suc-mul i nodes) in ap (λ (k : ℕ). get_or dist k 0) same

num-plus : (dist : List ℕ) (nodes i v : ℕ) → num dist nodes (i + 1) v ≡ num dist nodes (suc i) v
num-plus dist nodes i v = let same : i + 1 ≡ suc i = omega arith in ap (λ (k : ℕ). num dist nodes k v) same

num-bound : (net : Network) (lengths : List ℕ) (from : ℕ) (dist : List ℕ) (steps : List (Option HopStep)) (m : ℕ) → AreFound net lengths from dist steps m → (i v : ℕ) → i ≤ m → v < net.nodes → num dist net.nodes i v ≤ MAX_LENGTH
num-bound net lengths from dist steps m f zero v l lv = elim (cases_eq v from) [
  | inl e ↦ omega (arith, num-first dist net.nodes v, ap (λ (k : ℕ). get_or dist k 0) e, f.searched.start)
  | inr n ↦ omega (arith, num-first dist net.nodes v, f.searched.far v lv n)
]
num-bound net lengths from dist steps m f (suc i) v l lv =
    let before = num-bound net lengths from dist steps m f i v (omega arith) lv in
    omega (arith, before, num-next dist net.nodes i v, (f.searched.each i (omega arith)).next.falls v lv)

num-falls : (net : Network) (lengths : List ℕ) (from : ℕ) (dist : List ℕ) (steps : List (Option HopStep)) (m : ℕ) → AreFound net lengths from dist steps m → (i v : ℕ) → i < m → v < net.nodes → num dist net.nodes (i + 1) v ≤ num dist net.nodes i v
num-falls net lengths from dist steps m f i v l lv = omega (arith, num-plus dist net.nodes i v, num-next dist net.nodes i v, (f.searched.each i l).next.falls v lv)

-- one goes over positive cells from a node
abbrev pub Passes : Network → ℕ → ℕ → ℕ → Type 0
Passes net c u x = (u < net.nodes) × PassesOver net.cells c u x

by-positive : (net : Network) (u v : ℕ) (walk : List ℕ) → IsNetwork net → u < net.nodes → PositiveWalk net.cells u v walk → GoesBy (Passes net) u v walk
by-positive net u v [] fits l w = w
by-positive net u v (c ∷ walk) fits l (x, p, w) = (x, (l, p), by-positive net x v walk fits (pass-inside net c u x fits p).0 w)

num-rises : (net : Network) (lengths : List ℕ) (from : ℕ) (dist : List ℕ) (steps : List (Option HopStep)) (m : ℕ) → AreFound net lengths from dist steps m → (i c u x : ℕ) → i < m → Passes net c u x
    → num dist net.nodes (i + 1) x ≤ num dist net.nodes i u + get_or lengths c 0
num-rises net lengths from dist steps m f i c u x l p =
    let inside = (pass-inside net c u x f.fits p.1).0 in
    let top = num-bound net lengths from dist steps m f (i + 1) x (omega arith) inside in
    elim (cases_lt (num dist net.nodes i u) MAX_LENGTH) [
      | inl near ↦ omega (arith, num-plus dist net.nodes i x, num-next dist net.nodes i x, (f.searched.each i l).all u p.0 near c x inside p.1)
      | inr far ↦ omega (arith, top, far)
    ]

-- no walk of at most so many cells is shorter
num-least : (net : Network) (lengths : List ℕ) (from : ℕ) (dist : List ℕ) (steps : List (Option HopStep)) (m : ℕ) → AreFound net lengths from dist steps m → (i v : ℕ) (walk : List ℕ) → i ≤ m → v < net.nodes
    → IsShortWalk net.cells from v i walk → num dist net.nodes i v ≤ walk_length lengths walk
num-least net lengths from dist steps m f i v walk l lv w =
    let bound = walk_within (Passes net) lengths (num dist net.nodes) i from v walk (λ j c u x less p. num-rises net lengths from dist steps m f j c u x (omega arith) p)
    (λ j less. num-falls net lengths from dist steps m f j v (omega arith) lv) (by-positive net from v walk f.fits f.first w.0) w.1 in
    omega (arith, bound, num-first dist net.nodes from, f.searched.start)

-- the steps to a node that was reached are a walk
pub trail-walk : (net : Network) (lengths : List ℕ) (from : ℕ) (dist : List ℕ) (steps : List (Option HopStep)) (m : ℕ) → AreFound net lengths from dist steps m → (i v : ℕ) → i ≤ m → v < net.nodes → num dist net.nodes i v < MAX_LENGTH
    → IsShortPath net.cells lengths from v i (num dist net.nodes i v) (hop_trail steps net.nodes i v)
trail-walk net lengths from dist steps m f zero v l lv near = elim (cases_eq v from) [
  | inl e ↦ ((sym e, omega arith), omega (arith, num-first dist net.nodes v, ap (λ (k : ℕ). get_or dist k 0) e, f.searched.start))
  | inr n ↦ absurd (omega (arith, num-first dist net.nodes v, f.searched.far v lv n))
]
trail-walk net lengths from dist steps m f (suc i) v l lv near =
    let next = num-next dist net.nodes i v in
    let place : suc i * net.nodes + v ≡ i * net.nodes + net.nodes + v = omega (arith, suc-mul i net.nodes) in
    let by = by_step (get_or dist (i * net.nodes + net.nodes + v) 0 ≡ num dist net.nodes i v) (IsOver net.cells lengths net.nodes dist (i * net.nodes) v) (step_at steps (suc i * net.nodes + v)) (step_at steps (i * net.nodes + net.nodes + v))
    (ap (step_at steps) place) ((f.searched.each i (omega arith)).next.by v lv) in
    lead (step_at steps (suc i * net.nodes + v)) next (λ w lw close. trail-walk net lengths from dist steps m f i w (omega arith) lw close) by
  where
    lead : (o : Option HopStep) → num dist net.nodes (suc i) v ≡ get_or dist (i * net.nodes + net.nodes + v) 0
        → ((w : ℕ) → w < net.nodes → num dist net.nodes i w < MAX_LENGTH → IsShortPath net.cells lengths from w i (num dist net.nodes i w) (hop_trail steps net.nodes i w))
        → MatchOption o (get_or dist (i * net.nodes + net.nodes + v) 0 ≡ num dist net.nodes i v) (IsOver net.cells lengths net.nodes dist (i * net.nodes) v)
        → IsShortPath net.cells lengths from v (suc i) (num dist net.nodes (suc i) v) (option_map_or (λ s. hop_trail steps net.nodes i s.from ++ s.cell ∷ []) o (hop_trail steps net.nodes i v))
    lead None next before e =
        let w = before v lv (omega (arith, next, e, near)) in
        ((w.0.0, omega (arith, w.0.1)), omega (arith, w.1, next, e))
    lead (Some s) next before o =
        let w = before s.from o.inside o.near in
        let walk = hop_trail steps net.nodes i s.from in
        let longer : length (walk ++ s.cell ∷ []) ≤ suc i = omega (arith, length-append walk (s.cell ∷ []), w.0.1) in
        let sum : walk_length lengths (walk ++ s.cell ∷ []) ≡ num dist net.nodes (suc i) v = omega (arith, length-more lengths s.cell walk, w.1, next, o.is) in
        ((walk-more net.cells from s.from v s.cell walk w.0.0 o.passes, longer), sum)

-- a walk over positive cells is at most 2 ^ 52 times its number of cells long
walk-small : (cells : List Cell) (lengths : List ℕ) (u v : ℕ) (walk : List ℕ) → AreLengths cells lengths → PositiveWalk cells u v walk → walk_length lengths walk ≤ length walk * 2 ^ 52
walk-small cells lengths u v [] long w = omega arith
walk-small cells lengths u v (c ∷ walk) long (x, p, w) =
    omega (arith, length-first lengths c walk, long.high c p.0 p.1 p.2, walk-small cells lengths x v walk long w)

-- each number is the length of a least walk of at most so many cells
pub least-found : (net : Network) (lengths : List ℕ) (from : ℕ) (dist : List ℕ) (steps : List (Option HopStep)) (m : ℕ) → AreFound net lengths from dist steps m → m ≤ MAX_HOPS → (i v : ℕ) → i ≤ m → v < net.nodes
    → IsLeastOf (IsShortWalk net.cells from v i) lengths (known (num dist net.nodes i v))
least-found net lengths from dist steps m f small i v l lv = elim (cases_lt (num dist net.nodes i v) MAX_LENGTH) [
  | inl near ↦ rw (known-near (num dist net.nodes i v) near) ((let t = trail-walk net lengths from dist steps m f i v l lv near in (hop_trail steps net.nodes i v, t.0, t.1)), λ walk w. num-least net lengths from dist steps m f i v walk l lv w)
  | inr far ↦ rw (known-far (num dist net.nodes i v) far)
      (λ walk w. absurd (omega (arith, far, num-least net lengths from dist steps m f i v walk l lv w, walk-small net.cells lengths from v walk f.long w.0, w.1)))
]

-- each path is a walk of the number, of at most so many cells
pub path-found : (net : Network) (lengths : List ℕ) (from : ℕ) (dist : List ℕ) (steps : List (Option HopStep)) (m : ℕ) → AreFound net lengths from dist steps m → (i v : ℕ) → i ≤ m → v < net.nodes
    → IfSome (known (num dist net.nodes i v)) (λ d. IsSomeAnd (option_map (λ _. hop_trail steps net.nodes i v) (known (num dist net.nodes i v))) (IsShortPath net.cells lengths from v i d))
path-found net lengths from dist steps m f i v l lv = elim (cases_lt (num dist net.nodes i v) MAX_LENGTH) [
  | inl near ↦ rw (known-near (num dist net.nodes i v) near) (trail-walk net lengths from dist steps m f i v l lv near)
  | inr far ↦ rw (known-far (num dist net.nodes i v) far) tt
]
