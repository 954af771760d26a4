-- The value of a number, in units of a power of ten.
use Rattle.std.specs.Prelude.{ℕ, ◌+◌, ◌*◌, ◌/◌, ◌%◌, ◌^◌, ◌++◌, length, Option, Some, None, Result, Ok, Err, ◌==◌, if◌then◌else◌, nat_le}
use Rattle.std.specs.Str.Parse.{digits_value}
use Rattle.mcf_limits.specs.declared.TheConstants.{MAX_DECIMALS, MAX_UNITS}
use Rattle.sndlib_grammar.specs.Number.{Number}
use Rattle.unit_scale.specs.declared.decimal.Decimal.{Decimal}
use Rattle.unit_scale.specs.declared.decimal.Decimal.TheVariants.{Millionths, Fine, Huge}
use Rattle.unit_scale.specs.declared.decimal.UnitFault.{UnitFault}
use Rattle.unit_scale.specs.declared.decimal.UnitFault.TheVariants.{NotNumber, TooFine, TooLarge}

-- the number is `digits n * 10 ^ n.up / 10 ^ places n`
abbrev pub digits : Number → ℕ
digits n = digits_value 10 (n.whole ++ n.fraction)

abbrev pub places : Number → ℕ
places n = length n.fraction + n.down

-- a quotient that leaves no rest
abbrev pub quotient : ℕ → ℕ → Option ℕ
quotient a b = if a % b == 0 then Some (a / b) else None

-- the number in units of 10 ^ -decimals, if it is a whole number of them
abbrev pub units_of : ℕ → Number → Option ℕ
units_of decimals n = quotient (digits n * 10 ^ (n.up + decimals)) (10 ^ places n)

-- the greatest number that is read
abbrev pub most : ℕ
most = MAX_UNITS

abbrev pub decimal_from : Option ℕ → Decimal
decimal_from None = Fine
decimal_from (Some m) = if nat_le m (most * 10 ^ MAX_DECIMALS) then Millionths m else Huge

abbrev pub decimal_of : Option Number → Option Decimal
decimal_of None = None
decimal_of (Some n) = Some (decimal_from (units_of MAX_DECIMALS n))

abbrev pub units_from : Option ℕ → Result ℕ UnitFault
units_from None = Err TooFine
units_from (Some m) = if nat_le m most then Ok m else Err TooLarge

abbrev pub units_read : ℕ → Option Number → Result ℕ UnitFault
units_read decimals None = Err NotNumber
units_read decimals (Some n) = units_from (units_of decimals n)
