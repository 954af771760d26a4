-- A number that is read was spelled so, and what is spelled is read.
use Rattle.std.proofs.Common.{◌≡◌, ℕ, zero, suc, ◌+◌, ◌*◌, ◌/◌, ◌%◌, ◌^◌, ◌<◌, ◌≤◌, Bool, true, false, cond, List, [], ◌∷◌, ◌++◌, length, get_or, Result, Ok, Err, refl, sym, ap, ◌∙◌, append_assoc, arith}
use Rattle.std.specs.Prelude.{nat_lt, nat_le, nat_eq, slice_index, ◌&&◌, ◌||◌}
use Rattle.std.specs.List.{list_all}
use Rattle.std.specs.Char.{is_ascii_digit, digit_value}
use Rattle.std.specs.Int.{IsInRange}
use Rattle.std.specs.Fmt.{decimal}
use Rattle.std.specs.Str.Parse.{AllDigits, digits_value, digits_value_after}
use Rattle.std.proofs.lemmas.List.{append-nil}
use Rattle.std.proofs.lemmas.Str.{digit_value_digit}
use Rattle.std.proofs.lemmas.Str.Parse.{digit_from_value}
use Rattle.std.proofs.lemmas.Fmt.{decimal_digit, decimal_step_wide, decimal_is_IsNumeral_wide, decimal_by_steps_wide, length-decimal-le_wide}
use Rattle.std.proofs.lemmas.Bool.Decides.{nat_tests}
use Rattle.cert_lines.specs.declared.refusal.CertKind.{CertKind}
use Rattle.cert_lines.specs.declared.refusal.CertKind.TheVariants.{BadNumber, TooLarge}
use Rattle.gap_fraction.specs.declared.fraction.TheConstants.{MAX_PART}
use Rattle.cert_lines.specs.declared.numbers.TheConstants.{MAX_DIGITS}
use Rattle.cert_lines.specs.Numbers.{is_number, number_within}
use Rattle.cert_lines.proofs.NumberSteps.{both_true, digit_range, digits_of}

abbrev done : {A : Type 0} → A → Result A CertKind
done x = Ok x

pub ok_is : {A : Type 0} (x y : A) → done x ≡ done y → x ≡ y
ok_is x y e = cc

-- a test that was passed
pub passed : {A : Type 0} (b : Bool) (r : Result A CertKind) (kind : CertKind) (y : A) → cond b r (Err kind) ≡ Ok y → (b ≡ true) × (r ≡ Ok y)
passed true r kind y e = (refl, e)
passed false r kind y e = absurd cc

le_value_after : (n : ℕ) (ds : List ℕ) → n ≤ digits_value_after 10 n ds
le_value_after n [] = omega arith
le_value_after n (c ∷ cs) = omega (arith, le_value_after (n * 10 + digit_value c) cs)

decimal_value_after : (n : ℕ) (ds : List ℕ) → 0 < n → AllDigits 10 ds → digits_value_after 10 n ds < 10 ^ 64 → decimal (digits_value_after 10 n ds) ≡ decimal n ++ ds
decimal_value_after n [] some d small = sym (append-nil (decimal n))
decimal_value_after n (c ∷ cs) some d small =
    let m : ℕ = n * 10 + digit_value c in
    let k = digit_value_digit c (digit_from_value c d.0) in
    let front : m / 10 ≡ n = omega (arith, d.0) in
    let end : 48 + m % 10 ≡ c = omega (arith, d.0) in
    decimal_value_after m cs (omega arith) d.1 small
    ∙ ap (λ x. x ++ cs) (decimal_step_wide m (omega arith) (omega (arith, le_value_after m cs)) ∙ (λ i. decimal (front i) ++ (end i ∷ [])))
    ∙ append_assoc (decimal n) (c ∷ []) cs

decimal_value : (ds : List ℕ) → AllDigits 10 ds → 0 < length ds → (get_or ds 0 0 ≡ 48 → length ds ≡ 1) → digits_value 10 ds < 10 ^ 64 → decimal (digits_value 10 ds) ≡ ds
decimal_value [] d some lead small = absurd (omega arith)
decimal_value (c ∷ []) d some lead small =
    let k = digit_value_digit c (digit_from_value c d.0) in
    decimal_digit (0 * 10 + digit_value c) (omega (arith, d.0)) ∙ ap (λ x. x ∷ []) (omega arith)
decimal_value (c ∷ e ∷ cs) d some lead small =
    let k = digit_value_digit c (digit_from_value c d.0) in
    let no : c ≡ 48 → ⊥ = λ z. omega (arith, lead z) in
    let is : 48 + (0 * 10 + digit_value c) ≡ c = omega arith in
    decimal_value_after (0 * 10 + digit_value c) (e ∷ cs) (omega arith) d.1 small
    ∙ ap (λ x. x ++ (e ∷ cs)) (decimal_digit (0 * 10 + digit_value c) (omega (arith, d.0)) ∙ ap (λ x. x ∷ []) is)

all_digits : (ds : List ℕ) → list_all is_ascii_digit ds ≡ true → AllDigits 10 ds
all_digits [] h = tt
all_digits (c ∷ cs) h =
    let b = both_true (is_ascii_digit c) (list_all is_ascii_digit cs) h in
    let r = digit_range c b.0 in
    (omega (arith, digit_value_digit c r, r.1), all_digits cs b.1)

digit_test : (c : ℕ) → IsInRange 48 57 c → is_ascii_digit c ≡ true
digit_test c r = grind (arith, nat_tests)

are_digits : (ds : List ℕ) → AllDigits 10 ds → list_all is_ascii_digit ds ≡ true
are_digits [] d = refl
are_digits (c ∷ cs) d = rw (digit_test c (digit_from_value c d.0), are_digits cs d.1) refl

leads : (word : List ℕ) → is_number word ≡ true → (0 < length word) × (get_or word 0 0 ≡ 48 → length word ≡ 1)
leads word h =
    let p = both_true (nat_lt 0 (length word) && nat_le (length word) MAX_DIGITS && (nat_eq (length word) 1 || nat_lt 48 (slice_index word 0))) (list_all is_ascii_digit word) h in
    let q = both_true (nat_lt 0 (length word) && nat_le (length word) MAX_DIGITS) (nat_eq (length word) 1 || nat_lt 48 (slice_index word 0)) p.0 in
    let r = both_true (nat_lt 0 (length word)) (nat_le (length word) MAX_DIGITS) q.0 in
    (some (length word) r.0, lead (length word) (get_or word 0 0) q.1)
  where
    some : (n : ℕ) → nat_lt 0 n ≡ true → 0 < n
    some n e = grind (arith, nat_tests)

    lead : (n c : ℕ) → (nat_eq n 1 || nat_lt 48 c) ≡ true → c ≡ 48 → n ≡ 1
    lead n c e is = grind (arith, nat_tests)

-- the number that was read is spelled so
pub number_takes : (most : ℕ) (word : List ℕ) (n : ℕ) → most ≤ MAX_PART → number_within most word ≡ Ok n → (word ≡ decimal n) × (n ≤ most)
unfolding number_within
number_takes most word n limit e =
    let v = digits_value 10 word in
    let a = passed (is_number word) (cond (nat_le v most) (Ok v) (Err TooLarge)) BadNumber n e in
    let b = passed (nat_le v most) (Ok v) TooLarge n a.1 in
    let is : v ≡ n = ok_is v n b.1 in
    let le : v ≤ most = le_of v most b.0 in
    let l = leads word a.0 in
    (sym (decimal_value word (all_digits word (digits_of word a.0)) l.0 l.1 (omega (arith, le, limit))) ∙ ap decimal is, omega (arith, le, is))
  where
    le_of : (x y : ℕ) → nat_le x y ≡ true → x ≤ y
    le_of x y e = grind (arith, nat_tests)

-- the first digit of a number but 0
first : (n : ℕ) → n < 10 ^ 64 → (0 < n → 48 < get_or (decimal n) 0 0) × (0 < length (decimal n))
first n small = decimal_by_steps_wide (λ m ds. (0 < m → 48 < get_or ds 0 0) × (0 < length ds)) (λ m l. (λ some. omega arith, omega arith)) more n small
  where
    more : (m : ℕ) (ds : List ℕ) → 10 ≤ m → (0 < m / 10 → 48 < get_or ds 0 0) × (0 < length ds) → (0 < m → 48 < get_or (ds ++ ((48 + m % 10) ∷ [])) 0 0) × (0 < length (ds ++ ((48 + m % 10) ∷ [])))
    more m [] l h = absurd (omega (arith, h.1))
    more m (d ∷ ds) l h = (λ some. h.0 (omega arith), omega arith)

is_number-decimal : (n : ℕ) → n ≤ MAX_PART → is_number (decimal n) ≡ true
is_number-decimal n small =
    let k = decimal_is_IsNumeral_wide n (omega arith) in
    let len = length-decimal-le_wide 39 n (omega arith) (omega arith) (omega arith) in
    let f = first n (omega arith) in
    rw (are_digits (decimal n) k.0.1) (tests n (length (decimal n)) (get_or (decimal n) 0 0) f.1 len f.0 (λ z. ap (λ m. length (decimal m)) z ∙ ap length (decimal_digit 0 (omega arith))))
  where
    tests : (n l c : ℕ) → 0 < l → l ≤ 39 → (0 < n → 48 < c) → (n ≡ 0 → l ≡ 1) → (nat_lt 0 l && nat_le l 39 && (nat_eq l 1 || nat_lt 48 c) && true) ≡ true
    tests zero l c some high above one =
        let e : l ≡ 1 = one refl in
        rw e refl
    tests (suc n) l c some high above one =
        let up : 48 < c = above (omega arith) in
        grind (arith, nat_tests)

-- what is spelled is read
pub number_again : (most n : ℕ) → most ≤ MAX_PART → n ≤ most → number_within most (decimal n) ≡ Ok n
unfolding number_within
number_again most n limit le =
    let k = decimal_is_IsNumeral_wide n (omega arith) in
    let small : nat_le n most ≡ true = grind (arith, nat_tests) in
    rw (is_number-decimal n (omega arith), k.1, small) refl
