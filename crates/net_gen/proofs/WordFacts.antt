-- Numbers as words of a text: their bytes, that they are numbers, and that names of different numbers differ.
use Rattle.std.proofs.Common.{◌≡◌, ℕ, ◌+◌, ◌<◌, ◌≤◌, ◌^◌, true, false, List, [], ◌∷◌, length, take, drop, map, refl, sym, ap, ◌∙◌, arith}
use Rattle.std.specs.Prelude.{◌==◌, All}
use Rattle.std.specs.Char.{is_ascii_digit}
use Rattle.std.specs.Fmt.{decimal}
use Rattle.std.specs.Int.{IsInRange}
use Rattle.std.specs.List.{list_all, prefix_len, range_with_len}
use Rattle.std.specs.Str.Parse.{AllDigits}
use Rattle.std.proofs.lemmas.Bool.Decides.{nat_tests}
use Rattle.std.proofs.lemmas.Fmt.{decimal_injective, decimal_is_IsNumeral, length-decimal-le}
use Rattle.std.proofs.lemmas.List.FromFn.{get_or-map-range_with_len, length-map-range_with_len}
use Rattle.std.proofs.lemmas.Simd.{map-map}
use Rattle.std.proofs.lemmas.Str.Parse.{digit_from_value}
use Rattle.std.proofs.Math.Seq.{drop-length, take-length}
use Rattle.sndlib_grammar.specs.Tokens.{is_word_byte}
use Rattle.sndlib_grammar.specs.Number.{is_number, front_digits, behind_digits}
use Rattle.sndlib_grammar.specs.Rows.{IsWord, AreDistinct}

-- ---- bytes

digit_byte : (c : ℕ) → IsInRange 48 57 c → is_word_byte c ≡ true
digit_byte c r = grind (arith, nat_tests)

digit_test : (c : ℕ) → IsInRange 48 57 c → is_ascii_digit c ≡ true
digit_test c r = grind (arith, nat_tests)

word_bytes : (ds : List ℕ) → AllDigits 10 ds → list_all is_word_byte ds ≡ true
word_bytes [] d = refl
word_bytes (c ∷ cs) d = rw (digit_byte c (digit_from_value c d.0), word_bytes cs d.1) refl

are_digits : (ds : List ℕ) → AllDigits 10 ds → list_all is_ascii_digit ds ≡ true
are_digits [] d = refl
are_digits (c ∷ cs) d = rw (digit_test c (digit_from_value c d.0), are_digits cs d.1) refl

pub decimal_word : (n : ℕ) → n < 10 ^ 12 → IsWord (decimal n)
decimal_word n small =
    let k = decimal_is_IsNumeral n (omega arith) in
    let len = length-decimal-le 12 n (omega arith) small (omega arith) in
    record { some = k.0.0; short = omega arith; bytes = word_bytes (decimal n) k.0.1 }

-- a letter and a number
pub name_word : (letter n : ℕ) → is_word_byte letter ≡ true → n < 10 ^ 12 → IsWord (letter ∷ decimal n)
name_word letter n is small =
    let k = decimal_is_IsNumeral n (omega arith) in
    let len = length-decimal-le 12 n (omega arith) small (omega arith) in
    record { some = omega arith; short = omega arith; bytes = rw (is, word_bytes (decimal n) k.0.1) refl }

-- ---- numbers

all_front : (ds : List ℕ) → AllDigits 10 ds → prefix_len is_ascii_digit ds ≡ length ds
all_front [] d = refl
all_front (c ∷ cs) d = rw (digit_test c (digit_from_value c d.0)) (omega (arith, all_front cs d.1))

digits_number : (ds : List ℕ) → AllDigits 10 ds → 0 < length ds → is_number ds ≡ true
digits_number [] d some = absurd (omega arith)
digits_number (c ∷ cs) d some =
    let front : front_digits (c ∷ cs) ≡ c ∷ cs = ap (λ k. take k (c ∷ cs)) (all_front (c ∷ cs) d) ∙ take-length (c ∷ cs) in
    let behind : behind_digits (c ∷ cs) ≡ [] = ap (λ k. drop k (c ∷ cs)) (all_front (c ∷ cs) d) ∙ drop-length (c ∷ cs) in
    let some_digit : (length (c ∷ cs) + 0 == 0) ≡ false = grind (arith, nat_tests) in
    rw (front, behind, some_digit) refl

pub decimal_number : (n : ℕ) → n < 10 ^ 12 → is_number (decimal n) ≡ true
decimal_number n small = let k = decimal_is_IsNumeral n (omega arith) in digits_number (decimal n) k.0.1 k.0.0

-- ---- rows below a number

pub all_rows : {X : Type 0} (P : X → Type 0) (row : ℕ → X) (n : ℕ) → ((i : ℕ) → i < n → P (row i)) → All P (map row (range_with_len 0 n))
all_rows P row n each k d lt =
    let inside : k < n = omega (arith, length-map-range_with_len row 0 n) in
    let here : 0 + k ≡ k = omega arith in
    rw (get_or-map-range_with_len row 0 n k k d inside here) (each k inside)

same_name : (letter i j : ℕ) → i < 10 ^ 12 → j < 10 ^ 12 → letter ∷ decimal i ≡ letter ∷ decimal j → i ≡ j
same_name letter i j li lj e = decimal_injective i j (omega arith) (omega arith) (ap (drop 1) e)

pub distinct_names : {X : Type 0} (id : X → List ℕ) (row : ℕ → X) (letter n : ℕ) → n ≤ 10 ^ 12 → ((i : ℕ) → id (row i) ≡ letter ∷ decimal i) → AreDistinct (map id (map row (range_with_len 0 n)))
distinct_names id row letter n small named =
    rw (map-map id row (range_with_len 0 n)) (λ i j d lt within.
    let last : j < n = omega (arith, length-map-range_with_len (λ k. id (row k)) 0 n) in
    let first : i < n = omega arith in
    let here : 0 + i ≡ i = omega arith in
    let there : 0 + j ≡ j = omega arith in
    let a = get_or-map-range_with_len (λ k. id (row k)) 0 n i i d first here in
    let b = get_or-map-range_with_len (λ k. id (row k)) 0 n j j d last there in
    λ e. absurd (omega (arith, same_name letter i j (omega arith) (omega arith) (sym (a ∙ named i) ∙ e ∙ b ∙ named j))))
