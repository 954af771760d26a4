-- Numbers in words: `0` or digits without a leading zero, and decimals with six digits.
use Rattle.std.specs.Prelude.{ℕ, ◌+◌, ◌-◌, ◌*◌, Bool, List, length, take, drop, Result, Ok, Err, nat_lt, nat_le, nat_eq, slice_index, ◌&&◌, ◌||◌, if◌then◌else◌}
use Rattle.std.specs.List.{list_all}
use Rattle.std.specs.Char.{is_ascii_digit}
use Rattle.std.specs.Str.Parse.{digits_value}
use Rattle.cert_lines.specs.declared.numbers.TheConstants.{MAX_DIGITS}
use Rattle.cert_lines.specs.declared.refusal.CertKind.{CertKind}
use Rattle.cert_lines.specs.declared.refusal.CertKind.TheVariants.{BadNumber, TooLarge}
use Rattle.cert_lines.specs.Forms.{◌>>=◌}

-- `0`, or up to 39 digits without a leading zero
abbrev pub is_number : List ℕ → Bool
is_number word =
    nat_lt 0 (length word) && nat_le (length word) MAX_DIGITS
    && (nat_eq (length word) 1 || nat_lt 48 (slice_index word 0)) && list_all is_ascii_digit word

-- the number that the word spells: it is to be a number, and then within the limit
unfoldable pub number_within : ℕ → List ℕ → Result ℕ CertKind
number_within most word =
    if is_number word then (if nat_le (digits_value 10 word) most then Ok (digits_value 10 word) else Err TooLarge)
    else Err BadNumber

-- a point and six digits
abbrev pub is_micro : List ℕ → Bool
is_micro part = nat_eq (length part) 7 && nat_eq (slice_index part 0) 46 && list_all is_ascii_digit (drop 1 part)

-- the number of the six digits behind the point
abbrev pub micro_value : List ℕ → ℕ
micro_value part =
    (slice_index part 1 - 48) * 100000 + (slice_index part 2 - 48) * 10000 + (slice_index part 3 - 48) * 1000
    + (slice_index part 4 - 48) * 100 + (slice_index part 5 - 48) * 10 + (slice_index part 6 - 48)

-- the whole part and the millionths that the word spells: it is to be a number, a point and six digits,
-- and then its whole part within the limit
unfoldable pub decimal_within : ℕ → List ℕ → Result (ℕ × ℕ) CertKind
decimal_within most word = if is_micro (drop (length word - 7) word)
    then (do
      whole ← number_within most (take (length word - 7) word)
      Ok (whole, micro_value (drop (length word - 7) word)))
    else Err BadNumber
