-- Places of a list, the first of a buffer, at which something changed.
use Rattle.std.specs.Prelude.{◌≡◌, ◌≢◌, ℕ, ◌<◌, ◌≤◌, List, slice_index}

-- the first `count` places are below n
pub record AreBelow (n count : ℕ) (places : List ℕ) : Type 0 where
  pub each : (j : ℕ) → j < count → slice_index places j < n

-- none of the first `count` places from the i-th on is k
pub record IsNotIn (count : ℕ) (places : List ℕ) (i k : ℕ) : Type 0 where
  pub each : (j : ℕ) → i ≤ j → j < count → slice_index places j ≢ k

-- the first n loads are as before, but at the first `count` places
pub record AreSameBut (count : ℕ) (places : List ℕ) (n : ℕ) (old new : List ℕ) : Type 0 where
  pub each : (k : ℕ) → k < n → IsNotIn count places 0 k → slice_index old k ≡ slice_index new k
