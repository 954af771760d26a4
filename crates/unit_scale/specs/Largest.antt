-- The greatest capacity so far, and long numbers by their digits.
use Rattle.std.specs.Prelude.{◌≡◌, ℕ, ◌+◌, ◌-◌, ◌*◌, ◌/◌, ◌%◌, ◌^◌, ◌<◌, ◌⊎◌, ◌++◌, true, length, Option, Some, None, nat_lt, if◌then◌else◌}
use Rattle.std.specs.Option.{unwrap_or, is_some}
use Rattle.std.specs.Str.Parse.{AllDigits, digits_value}
use Rattle.mcf_limits.specs.declared.TheConstants.{MAX_DECIMALS}
use Rattle.sndlib_grammar.specs.declared.parse.NumberParts.{NumberParts}
use Rattle.sndlib_grammar.specs.Number.{Number, AreDigits}
use Rattle.sndlib_grammar.specs.Views.{number_view}
use Rattle.unit_scale.specs.Short.{short}
use Rattle.unit_scale.specs.Units.{units_of}
use Rattle.unit_scale.specs.declared.compare.LongNumber.{LongNumber}

-- the number in millionths
abbrev pub amount_of : Number → ℕ
amount_of n = unwrap_or (units_of MAX_DECIMALS n) 0

-- the parts of a number that is a whole number of millionths
pub record IsFit (p : NumberParts) : Type 0 where
  pub digits : AreDigits (number_view p)
  pub some : is_some (units_of MAX_DECIMALS (number_view p)) ≡ true
  pub small : length p.whole.now + length p.fraction.now < 2 ^ 63

-- the greatest number so far, and 0 before the first
abbrev pub best_amount : Option NumberParts → ℕ
best_amount None = 0
best_amount (Some p) = amount_of (number_view p)

-- that number, and its size in short
abbrev pub IsBest : Option NumberParts → ℕ → Type 0
IsBest None size = size ≡ 0
IsBest (Some p) size = IsFit p × (size ≡ short (amount_of (number_view p)))

-- ---- long numbers

-- the number that the digits write
abbrev pub written : LongNumber → ℕ
written n = digits_value 10 (n.whole.now ++ n.fraction.now)

-- v is written by the digits, with zeros behind them or without zeros at their end
pub record IsLong (n : LongNumber) (v : ℕ) : Type 0 where
  pub same : v * 10 ^ n.cut ≡ written n * 10 ^ n.zeros
  pub one : (n.zeros ≡ 0) ⊎ (n.cut ≡ 0)

pub record AreLongDigits (n : LongNumber) : Type 0 where
  pub whole : AllDigits 10 n.whole.now
  pub fraction : AllDigits 10 n.fraction.now
  pub size : length n.whole.now + length n.fraction.now < 2 ^ 63
  pub zeros : n.zeros < 2 ^ 62

-- its digit at a place from the right
abbrev pub long_digit : LongNumber → ℕ → ℕ
long_digit n place = if nat_lt place n.zeros then 0 else written n / 10 ^ (place - n.zeros + n.cut) % 10
