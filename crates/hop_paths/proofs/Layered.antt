-- Layers bound walks, over any relation of traversals.
use Rattle.std.proofs.Common.{◌≡◌, ℕ, zero, suc, ◌+◌, ◌-◌, ◌<◌, ◌≤◌, List, [], ◌∷◌, length, get_or, ap, arith}
use Rattle.std.proofs.lemmas.List.Sums.{sum_by-cons}
use Rattle.flow_model.specs.declared.net.Cell.{Cell}
use Rattle.flow_model.specs.Network.{Network}
use Rattle.flow_model.specs.Walk.{GoesOver, IsWalk}
use Rattle.flow_model.specs.Bound.{walk_length}
use Rattle.hop_paths.specs.Layers.{IsLayers}

-- one goes by this relation over these cells, one after the other, from u to v
abbrev pub GoesBy : (ℕ → ℕ → ℕ → Type 0) → ℕ → ℕ → List ℕ → Type 0
GoesBy Over u v [] = u ≡ v
GoesBy Over u v (c ∷ walk) = (x : ℕ) × Over c u x × GoesBy Over x v walk

-- from one layer to the next a number rises by at most the cell's length
abbrev pub RisesBy : (ℕ → ℕ → ℕ → Type 0) → List ℕ → (ℕ → ℕ → ℕ) → ℕ → Type 0
RisesBy Over lengths p m = (i c u x : ℕ) → i < m → Over c u x → p (i + 1) x ≤ p i u + get_or lengths c 0

-- a walk that begins at layer j
pub walk_from : (Over : ℕ → ℕ → ℕ → Type 0) (lengths : List ℕ) (p : ℕ → ℕ → ℕ) (m : ℕ) → RisesBy Over lengths p m
    → (walk : List ℕ) (j u v : ℕ) → GoesBy Over u v walk → j + length walk ≤ m → p (j + length walk) v ≤ p j u + walk_length lengths walk
walk_from Over lengths p m rises [] j u v w l =
    let same : j + 0 ≡ j = omega arith in
    omega (arith, ap (λ (i : ℕ). p i v) same, ap (λ (x : ℕ). p j x) w)
walk_from Over lengths p m rises (c ∷ walk) j u v (x, over, w) l =
    let first : p (j + 1) x ≤ p j u + get_or lengths c 0 = rises j c u x (omega arith) over in
    let rest : p (j + 1 + length walk) v ≤ p (j + 1) x + walk_length lengths walk = walk_from Over lengths p m rises walk (j + 1) x v w (omega arith) in
    let same : j + 1 + length walk ≡ j + length (c ∷ walk) = omega arith in
    omega (arith, first, rest, ap (λ (i : ℕ). p i v) same, sum_by-cons (λ d. get_or lengths d 0) c walk)

-- a number that does not rise at a node
pub falls_by : (p : ℕ → ℕ → ℕ) (v i k : ℕ) → ((j : ℕ) → j < i + k → p (j + 1) v ≤ p j v) → p (i + k) v ≤ p i v
falls_by p v i zero falls =
    let same : i + 0 ≡ i = omega arith in
    omega (arith, ap (λ (j : ℕ). p j v) same)
falls_by p v i (suc k) falls =
    let before = falls_by p v i k (λ j l. falls j (omega arith)) in
    let last : p (i + k + 1) v ≤ p (i + k) v = falls (i + k) (omega arith) in
    let same : i + k + 1 ≡ i + suc k = omega arith in
    omega (arith, before, last, ap (λ (j : ℕ). p j v) same)

-- a walk of at most so many cells
pub walk_within : (Over : ℕ → ℕ → ℕ → Type 0) (lengths : List ℕ) (p : ℕ → ℕ → ℕ) (m u v : ℕ) (walk : List ℕ) → RisesBy Over lengths p m → ((j : ℕ) → j < m → p (j + 1) v ≤ p j v)
    → GoesBy Over u v walk → length walk ≤ m → p m v ≤ p 0 u + walk_length lengths walk
walk_within Over lengths p m u v walk rises falls w l =
    let n = length walk in
    let there : p (0 + n) v ≤ p 0 u + walk_length lengths walk = walk_from Over lengths p m rises walk 0 u v w (omega arith) in
    let same : n + (m - n) ≡ m = omega arith in
    let down : p (n + (m - n)) v ≤ p n v = falls_by p v n (m - n) (λ j k. falls j (omega arith)) in
    let plain : 0 + n ≡ n = omega arith in
    omega (arith, there, down, ap (λ (i : ℕ). p i v) same, ap (λ (i : ℕ). p i v) plain)

by_cells : (cells : List Cell) (u v : ℕ) (walk : List ℕ) → IsWalk cells u v walk → GoesBy (GoesOver cells) u v walk
by_cells cells u v [] w = w
by_cells cells u v (c ∷ walk) (x, over, w) = (x, over, by_cells cells x v walk w)

-- layers bound every walk
pub layers_bound : (net : Network) (lengths : List ℕ) (p : ℕ → List ℕ) (m u v : ℕ) (walk : List ℕ) → IsLayers net lengths p m → v < net.nodes → IsWalk net.cells u v walk → length walk ≤ m
    → get_or (p m) v 0 ≤ get_or (p 0) u 0 + walk_length lengths walk
layers_bound net lengths p m u v walk are inside w l =
    walk_within (GoesOver net.cells) lengths (λ i x. get_or (p i) x 0) m u v walk (λ i c a x less over. are.goes i c over.0 a x less over.1 over.2) (λ j less. are.falls j v less inside) (by_cells net.cells u v walk w) l
