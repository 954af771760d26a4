-- A tournament of ratios: of each two one goes on, and the last is the first of least value.
use Rattle.std.specs.Prelude.{◌≡◌, ◌⊎◌, ℕ, ◌+◌, ◌*◌, ◌<◌, ◌≤◌, List, All, length, slice_index_or, slice_set}
use Rattle.whatif.specs.declared.ratio.Ratio.{Ratio}
use Rattle.whatif.specs.Ratios.{IsRatio, Precedes}

abbrev pub no_ratio : Ratio
no_ratio = record { cap = 0; load = 0; cell = 0 }

-- the node of that number
abbrev pub node : List Ratio → ℕ → Ratio
node nodes i = slice_index_or nodes i no_ratio

-- one of the two, which goes before both
pub record IsWinner (r x y : Ratio) : Type 0 where
  pub one : (r ≡ x) ⊎ (r ≡ y)
  pub left : Precedes r x
  pub right : Precedes r y

-- the node of that number is the winner of the two below it
abbrev pub IsWon : List Ratio → ℕ → Type 0
IsWon nodes i = IsWinner (node nodes i) (node nodes (2 * i)) (node nodes (2 * i + 1))

-- every node but the `leaves` leaves is the winner of the two below it
pub record IsTournament (leaves : ℕ) (nodes : List Ratio) : Type 0 where
  pub count : length nodes ≡ 2 * leaves
  pub ratios : All IsRatio nodes
  pub won : (i : ℕ) → 1 ≤ i → i < leaves → IsWon nodes i

-- nothing but the node of that number has changed, and it is the winner of the two below it
pub record IsPlayed (old new : List Ratio) (i : ℕ) : Type 0 where
  pub same : new ≡ slice_set old i (node new i)
  pub won : IsWinner (node new i) (node old (2 * i)) (node old (2 * i + 1))

-- the first ratio of least value
pub record IsFirstLeast (leaves : List Ratio) (r : Ratio) : Type 0 where
  pub place : ℕ
  pub within : place < length leaves
  pub here : node leaves place ≡ r
  pub before : (d : ℕ) → d < length leaves → Precedes r (node leaves d)
