-- Of several the first of the least value.
use Rattle.std.specs.Prelude.{◌≡◌, ℕ, ◌<◌, List, [], ◌∷◌, All, Some, slice_get, if◌then◌else◌}
use Rattle.gap_fraction.specs.Fraction.{Fraction, FractionLe}
use Rattle.flow_paths.specs.Evaluation.{fraction_le}

-- of the items the first of the least value, and `none` where there is no item
abbrev pub least_by : {X : Type 0} → (X → Fraction) → X → List X → X
least_by value none [] = none
least_by value none (x ∷ []) = x
least_by value none (x ∷ y ∷ ys) = if fraction_le (value x) (value (least_by value none (y ∷ ys))) then x else least_by value none (y ∷ ys)

-- it is one of them, none is below it, and all before it are above it
pub record IsFirstLeast {X : Type 0} (value : X → Fraction) (xs : List X) (x : X) : Type 0 where
  pub place : ℕ
  pub here : slice_get xs place ≡ Some x
  pub least : All (λ y. FractionLe (value x) (value y)) xs
  pub before : (i : ℕ) (y : X) → i < place → slice_get xs i ≡ Some y → ¬ (FractionLe (value y) (value x))
