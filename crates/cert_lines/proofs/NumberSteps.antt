-- One more digit of a number.
use Rattle.std.proofs.Common.{◌≡◌, ℕ, zero, suc, ◌+◌, ◌-◌, ◌*◌, ◌<◌, Bool, true, false, List, [], ◌∷◌, length, get_or, take, drop, Err, refl, arith}
use Rattle.std.specs.Prelude.{nat_lt, nat_le, nat_eq, slice_index, ◌&&◌, ◌||◌}
use Rattle.std.specs.List.{list_all}
use Rattle.std.specs.Char.{is_ascii_digit}
use Rattle.std.specs.Int.{IsInRange}
use Rattle.std.specs.Str.Parse.{digits_value}
use Rattle.std.proofs.lemmas.Str.{digit_value_digit}
use Rattle.std.proofs.lemmas.Str.Parse.{digits_value-take-le}
use Rattle.std.proofs.lemmas.Int.Digits.{digits_value_more}
use Rattle.std.proofs.lemmas.Bool.Decides.{nat_tests}
use Rattle.cert_lines.specs.declared.refusal.CertKind.TheVariants.{TooLarge}
use Rattle.cert_lines.specs.declared.numbers.TheConstants.{MAX_DIGITS}
use Rattle.cert_lines.specs.Numbers.{is_number, number_within, is_micro, micro_value}

pub both_true : (a b : Bool) → (a && b) ≡ true → (a ≡ true) × (b ≡ true)
both_true true b e = (refl, e)
both_true false b e = absurd cc

pub digit_range : (c : ℕ) → is_ascii_digit c ≡ true → IsInRange 48 57 c
digit_range c e = grind (arith, nat_tests)

pub digit_at : (word : List ℕ) (i : ℕ) → list_all is_ascii_digit word ≡ true → i < length word → IsInRange 48 57 (get_or word i 0)
digit_at [] i h lt = absurd (omega arith)
digit_at (c ∷ word) zero h lt = digit_range c (both_true (is_ascii_digit c) (list_all is_ascii_digit word) h).0
digit_at (c ∷ word) (suc i) h lt = digit_at word i (both_true (is_ascii_digit c) (list_all is_ascii_digit word) h).1 (omega arith)

pub digits_of : (word : List ℕ) → is_number word ≡ true → list_all is_ascii_digit word ≡ true
digits_of word h = (both_true (nat_lt 0 (length word) && nat_le (length word) MAX_DIGITS && (nat_eq (length word) 1 || nat_lt 48 (slice_index word 0))) (list_all is_ascii_digit word) h).1

pub one_more : (word : List ℕ) (i value : ℕ) → is_number word ≡ true → i < length word → value ≡ digits_value 10 (take i word) → value * 10 + (get_or word i 0 - 48) ≡ digits_value 10 (take (i + 1) word)
one_more word i value h lt so_far =
    let d = digit_value_digit (get_or word i 0) (digit_at word i (digits_of word h) lt) in
    omega (arith, digits_value_more 10 word i lt)

-- a front of the digits is over the limit already
pub over : (word : List ℕ) (i value most : ℕ) → is_number word ≡ true → value ≡ digits_value 10 (take i word) → most < value → number_within most word ≡ Err TooLarge
unfolding number_within
over word i value most h is lt =
    let le = digits_value-take-le 10 word i (omega arith) in
    let no : nat_le (digits_value 10 word) most ≡ false = grind (arith, nat_tests) in
    rw (h, no) refl

length_seven : (part : List ℕ) → is_micro part ≡ true → length part ≡ 7
length_seven part h = seven (length part) (both_true (nat_eq (length part) 7) (nat_eq (slice_index part 0) 46) (both_true (nat_eq (length part) 7 && nat_eq (slice_index part 0) 46) (list_all is_ascii_digit (drop 1 part)) h).0).0
  where
    seven : (n : ℕ) → nat_eq n 7 ≡ true → n ≡ 7
    seven n e = grind (arith, nat_tests)

pub digits_behind : (part : List ℕ) → is_micro part ≡ true → list_all is_ascii_digit (drop 1 part) ≡ true
digits_behind part h = (both_true (nat_eq (length part) 7 && nat_eq (slice_index part 0) 46) (list_all is_ascii_digit (drop 1 part)) h).1

-- the number of six digits
pub micro_small : (part : List ℕ) → is_micro part ≡ true → micro_value part < 1000000
micro_small part h = small part (length_seven part h) (digits_behind part h)
  where
    small : (part : List ℕ) → length part ≡ 7 → list_all is_ascii_digit (drop 1 part) ≡ true → micro_value part < 1000000
    small [] e d = absurd (omega arith)
    small (p ∷ []) e d = absurd (omega arith)
    small (p ∷ a ∷ []) e d = absurd (omega arith)
    small (p ∷ a ∷ b ∷ []) e d = absurd (omega arith)
    small (p ∷ a ∷ b ∷ c ∷ []) e d = absurd (omega arith)
    small (p ∷ a ∷ b ∷ c ∷ i ∷ []) e d = absurd (omega arith)
    small (p ∷ a ∷ b ∷ c ∷ i ∷ j ∷ []) e d = absurd (omega arith)
    small (p ∷ a ∷ b ∷ c ∷ i ∷ j ∷ k ∷ []) e d =
        let ds = a ∷ b ∷ c ∷ i ∷ j ∷ k ∷ [] in
        omega (arith, digit_at ds 0 d (omega arith), digit_at ds 1 d (omega arith), digit_at ds 2 d (omega arith), digit_at ds 3 d (omega arith), digit_at ds 4 d (omega arith), digit_at ds 5 d (omega arith))
    small (p ∷ a ∷ b ∷ c ∷ i ∷ j ∷ k ∷ l ∷ more) e d = absurd (omega arith)
