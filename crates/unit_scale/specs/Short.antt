-- A number in place of a greater one: it stands above the limit too, and has the same last digits.
use Rattle.std.specs.Prelude.{ℕ, ◌+◌, ◌*◌, ◌/◌, ◌%◌, ◌^◌, if◌then◌else◌, nat_le}
use Rattle.mcf_limits.specs.declared.TheConstants.{MAX_DECIMALS, MAX_UNITS}

-- the greatest number that is read, in millionths
abbrev pub limit : ℕ
limit = MAX_UNITS * 10 ^ MAX_DECIMALS

-- what the last digits stay below: as many of them as a product of two numbers has decimals
abbrev pub last : ℕ
last = 10 ^ (2 * MAX_DECIMALS)

-- the least number above the limit whose last digits are zeros
abbrev pub above : ℕ
above = (limit / last + 1) * last

unfoldable pub short : ℕ → ℕ
short n = if nat_le n limit then n else above + n % last
