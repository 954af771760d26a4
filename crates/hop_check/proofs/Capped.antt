-- Numbers up to a thousand, whatever they are above it.
use Rattle.std.proofs.Common.{◌≡◌, inl, inr, ℕ, suc, ◌+◌, ◌*◌, ◌^◌, ◌-◌, ◌<◌, ◌≤◌, min, List, [], ◌∷◌, ◌++◌, length, take, get_or, sym, ap, ◌∙◌, arith}
use Rattle.std.specs.Char.{digit_value}
use Rattle.std.specs.Str.Parse.{AllDigits, digits_value, digits_value_after}
use Rattle.std.proofs.Math.Nat.{pow-suc, mul_assoc, mul-le-mul_left, one-le-pow}
use Rattle.std.proofs.lemmas.Bool.{cases_lt}
use Rattle.std.proofs.lemmas.List.{take_more}
use Rattle.std.proofs.lemmas.Str.Parse.{digit_at}
use Rattle.unit_scale.proofs.DigitLaws.{after-append, digit_is}

capped_step : (n x d : ℕ) → n ≡ min x 1000 → min (n * 10 + d) 1000 ≡ min (x * 10 + d) 1000
capped_step n x d e = omega arith

-- one digit more
pub followed-more : (m n s i : ℕ) (ds : List ℕ) → AllDigits 10 ds → i < length ds → n ≡ min (digits_value_after 10 s (take i ds)) 1000
    → m ≡ min (n * 10 + (get_or ds i 0 - 48)) 1000 → m ≡ min (digits_value_after 10 s (take (i + 1) ds)) 1000
followed-more m n s i ds all lt e is =
    let d = digit_at ds i all lt in
    let v : digit_value (get_or ds i 0) ≡ get_or ds i 0 - 48 = digit_is (get_or ds i 0) (omega (arith, d)) (omega (arith, d)) in
    let x = digits_value_after 10 s (take i ds) in
    let more : digits_value_after 10 s (take (i + 1) ds) ≡ x * 10 + digit_value (get_or ds i 0) = ap (digits_value_after 10 s) (take_more ds i 0 lt) ∙ after-append s (take i ds) (get_or ds i 0 ∷ []) in
    is ∙ capped_step n x (get_or ds i 0 - 48) e ∙ ap (λ (k : ℕ). min (x * 10 + k) 1000) (sym v) ∙ ap (λ (k : ℕ). min k 1000) (sym more)

capped_after : (ds : List ℕ) (a b : ℕ) → min a 1000 ≡ min b 1000 → min (digits_value_after 10 a ds) 1000 ≡ min (digits_value_after 10 b ds) 1000
capped_after [] a b e = e
capped_after (d ∷ ds) a b e = capped_after ds (a * 10 + digit_value d) (b * 10 + digit_value d) (step a b (digit_value d) e)
  where
    step : (a b v : ℕ) → min a 1000 ≡ min b 1000 → min (a * 10 + v) 1000 ≡ min (b * 10 + v) 1000
    step a b v e = omega arith

-- digits read in two parts
pub two_parts : (n m : ℕ) (xs ys : List ℕ) → n ≡ min (digits_value_after 10 0 xs) 1000 → m ≡ min (digits_value_after 10 n ys) 1000 → m ≡ min (digits_value 10 (xs ++ ys)) 1000
two_parts n m xs ys e f =
    let same : min n 1000 ≡ min (digits_value 10 xs) 1000 = omega arith in
    f ∙ capped_after ys n (digits_value 10 xs) same ∙ ap (λ (k : ℕ). min k 1000) (sym (after-append 0 xs ys))

-- one zero more
pub raised-more : (m n s i : ℕ) → n ≡ min (s * 10 ^ i) 1000 → m ≡ min (n * 10) 1000 → m ≡ min (s * 10 ^ (i + 1)) 1000
raised-more m n s i e is =
    let one : i + 1 ≡ suc i = omega arith in
    let p : 10 ^ (i + 1) ≡ 10 ^ i * 10 = ap (λ (k : ℕ). 10 ^ k) one ∙ pow-suc 10 i in
    let q : s * 10 ^ (i + 1) ≡ s * 10 ^ i * 10 = ap (λ (k : ℕ). s * k) p ∙ sym (mul_assoc s (10 ^ i) 10) in
    omega arith

-- zeros behind a number that is up to a thousand
pub raised_whole : (n x z : ℕ) → n ≡ min x 1000 → min (n * 10 ^ z) 1000 ≡ min (x * 10 ^ z) 1000
raised_whole n x z e = elim (cases_lt x 1000) [
  | inl low ↦ let is : n ≡ x = omega arith in ap (λ (k : ℕ). min (k * 10 ^ z) 1000) is
  | inr high ↦
      let one : 1 ≤ 10 ^ z = one-le-pow z 10 (omega arith) in
      let up : x * 1 ≤ x * 10 ^ z = mul-le-mul_left x one in
      let down : n * 1 ≤ n * 10 ^ z = mul-le-mul_left n one in
      omega arith
]
