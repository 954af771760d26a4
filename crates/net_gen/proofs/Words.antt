-- The numbers that drawn words write, in millionths.
use Rattle.std.proofs.Common.{◌≡◌, ℕ, ◌+◌, ◌*◌, ◌<◌, ◌≤◌, ◌^◌, true, false, List, [], ◌∷◌, length, take, drop, nat_lt, refl, ap, ◌∙◌, arith}
use Rattle.std.specs.Prelude.{◌==◌, Option, Some}
use Rattle.std.specs.Option.{unwrap_or, is_none}
use Rattle.std.specs.Char.{is_ascii_digit}
use Rattle.std.specs.Fmt.{decimal}
use Rattle.std.specs.Int.{IsInRange}
use Rattle.std.specs.List.{prefix_len}
use Rattle.std.specs.Str.Parse.{AllDigits, digits_value}
use Rattle.std.proofs.lemmas.Bool.Decides.{nat_tests}
use Rattle.std.proofs.lemmas.Fmt.{decimal_is_IsNumeral}
use Rattle.std.proofs.lemmas.List.{append-nil}
use Rattle.std.proofs.lemmas.Str.Parse.{digit_from_value}
use Rattle.std.proofs.Math.Seq.{drop-length, take-length}
use Rattle.sndlib_grammar.specs.Number.{number_of, plain, front_digits, behind_digits}
use Rattle.unit_scale.specs.Units.{most}
use Rattle.unit_scale.specs.Sizes.{millionths, millionths_of, value, is_fine, is_over}
use Rattle.unit_scale.proofs.UnitLaws.{units_raise}

digit_test : (c : ℕ) → IsInRange 48 57 c → is_ascii_digit c ≡ true
digit_test c r = grind (arith, nat_tests)

all_front : (ds : List ℕ) → AllDigits 10 ds → prefix_len is_ascii_digit ds ≡ length ds
all_front [] d = refl
all_front (c ∷ cs) d = rw (digit_test c (digit_from_value c d.0)) (omega (arith, all_front cs d.1))

-- digits alone are a number
digits_are : (ds : List ℕ) → AllDigits 10 ds → 0 < length ds → number_of ds ≡ Some (plain ds [])
digits_are [] d some = absurd (omega arith)
digits_are (c ∷ cs) d some =
    let front : front_digits (c ∷ cs) ≡ c ∷ cs = ap (λ k. take k (c ∷ cs)) (all_front (c ∷ cs) d) ∙ take-length (c ∷ cs) in
    let behind : behind_digits (c ∷ cs) ≡ [] = ap (λ k. drop k (c ∷ cs)) (all_front (c ∷ cs) d) ∙ drop-length (c ∷ cs) in
    let some_digit : (length (c ∷ cs) + 0 == 0) ≡ false = grind (arith, nat_tests) in
    rw (front, behind, some_digit) refl

pub decimal_is : (n : ℕ) → n < 10 ^ 12 → millionths (decimal n) ≡ Some (n * 1000000)
decimal_is n small =
    let k = decimal_is_IsNumeral n (omega arith) in
    ap millionths_of (digits_are (decimal n) k.0.1 k.0.0)
    ∙ units_raise (plain (decimal n) []) 6 (omega arith)
    ∙ ap (λ (ds : List ℕ). Some (digits_value 10 ds * 1000000)) (append-nil (decimal n))
    ∙ ap (λ (v : ℕ). Some (v * 1000000)) k.1

pub value_is : (n : ℕ) → n < 10 ^ 12 → value (decimal n) ≡ n * 1000000
value_is n small = ap (λ (o : Option ℕ). unwrap_or o 0) (decimal_is n small)

pub not_fine : (n : ℕ) → n < 10 ^ 12 → is_fine (decimal n) ≡ false
not_fine n small = ap (λ (o : Option ℕ). is_none o) (decimal_is n small)

pub nat_lt-false : (a b : ℕ) → b ≤ a → nat_lt a b ≡ false
nat_lt-false a b le = grind (arith, nat_tests)

pub not_over : (n : ℕ) → n ≤ 10 ^ 9 → is_over (decimal n) ≡ false
not_over n small = ap (nat_lt (most * 10 ^ 6)) (value_is n (omega arith)) ∙ nat_lt-false (most * 10 ^ 6) (n * 1000000) (omega arith)
