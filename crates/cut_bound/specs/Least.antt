-- Of several the first of the least value, and the first of the greatest.
use Rattle.std.specs.Prelude.{◌≡◌, ℕ, ◌≤◌, ◌<◌, List, All, Some, length, slice_get}
use Rattle.gap_fraction.specs.Fraction.{Fraction, FractionLe}
use Rattle.flow_paths.specs.Least.{least_by, IsFirstLeast}

-- where no value divides by 0, the first of the least is what its name says
abbrev pub LeastIsFirst : Type 0 → Type 0
LeastIsFirst X = (value : X → Fraction) (none : X) (xs : List X) → 1 ≤ length xs
    → All (λ y. 1 ≤ (value y).den) xs → IsFirstLeast value xs (least_by value none xs)

-- it is one of them, none is above it, and all before it are below it
pub record IsFirstGreatest {X : Type 0} (value : X → Fraction) (xs : List X) (x : X) : Type 0 where
  pub place : ℕ
  pub here : slice_get xs place ≡ Some x
  pub greatest : All (λ y. FractionLe (value y) (value x)) xs
  pub before : (i : ℕ) (y : X) → i < place → slice_get xs i ≡ Some y → ¬ (FractionLe (value x) (value y))
