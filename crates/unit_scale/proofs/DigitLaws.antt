-- The numbers that digits write, part by part.
use Rattle.std.proofs.Common.{◌≡◌, ◌≢◌, ◌⊎◌, inl, inr, ℕ, ◌+◌, ◌*◌, ◌^◌, ◌-◌, ◌≤◌, ◌<◌, List, [], ◌∷◌, ◌++◌, length, take, drop, get_or, arith, sym, ◌∙◌, ap, refl, zero, suc, Bool, true, false, ◌==◌, ◌&&◌}
use Rattle.std.specs.Char.{digit_value}
use Rattle.std.specs.List.{list_all}
use Rattle.std.specs.Str.Parse.{AllDigits, digits_value, digits_value_after}
use Rattle.std.proofs.Math.Nat.{pow-suc, one-le-pow}
use Rattle.std.proofs.lemmas.Bool.Decides.{nat_tests}
use Rattle.std.proofs.lemmas.List.{take_more}
use Rattle.std.proofs.lemmas.Str.Parse.{digit_at}
use Rattle.unit_scale.specs.Short.{short}
use Rattle.unit_scale.proofs.ShortLaws.{short_same, short_again}

pub after-append : (n : ℕ) (xs ys : List ℕ) → digits_value_after 10 n (xs ++ ys) ≡ digits_value_after 10 (digits_value_after 10 n xs) ys
after-append n [] ys = refl
after-append n (x ∷ xs) ys = after-append (n * 10 + digit_value x) xs ys

pub digit_is : (c : ℕ) → 48 ≤ c → c ≤ 57 → digit_value c ≡ c - 48
digit_is c low high = grind (arith, nat_tests)

-- one digit more, in short
pub extends : (n m s i : ℕ) (ds : List ℕ) → AllDigits 10 ds → i < length ds → short n ≡ short (digits_value_after 10 s (take i ds)) → m ≡ short (n * 10 + (get_or ds i 0 - 48)) → short m ≡ short (digits_value_after 10 s (take (i + 1) ds))
extends n m s i ds all h e is =
    let d = digit_at ds i all h in
    let v : digit_value (get_or ds i 0) ≡ get_or ds i 0 - 48 = digit_is (get_or ds i 0) (omega (arith, d)) (omega (arith, d)) in
    let x = digits_value_after 10 s (take i ds) in
    let same = short_same n x 10 (get_or ds i 0 - 48) e (omega arith) in
    let a = after-append s (take i ds) (get_or ds i 0 ∷ []) in
    let b : digits_value_after 10 s (take (i + 1) ds) ≡ x * 10 + (get_or ds i 0 - 48) = rw (take_more ds i 0 h) (a ∙ ap (λ k. x * 10 + k) v) in
    rw (is, b) (short_again (n * 10 + (get_or ds i 0 - 48)) ∙ same)

pub after-value : (n : ℕ) (ds : List ℕ) → digits_value_after 10 n ds ≡ n * 10 ^ length ds + digits_value 10 ds
after-value n [] = omega arith
after-value n (d ∷ ds) =
    let e = after-value (n * 10 + digit_value d) ds in
    let f = after-value (0 * 10 + digit_value d) ds in
    let p : 10 ^ length (d ∷ ds) ≡ 10 ^ length ds * 10 = pow-suc 10 (length ds) in
    rw p (omega (arith, e, f))

zeros_head : (d : ℕ) (rest : Bool) → (d == 48 && rest) ≡ true → (d ≡ 48) × (rest ≡ true)
zeros_head d rest h = (grind (arith, nat_tests), grind (arith, nat_tests))

pub zeros-value : (ds : List ℕ) → list_all (λ d. d == 48) ds ≡ true → digits_value 10 ds ≡ 0
zeros-value [] h = refl
zeros-value (d ∷ ds) h =
    let s = zeros_head d (list_all (λ d. d == 48) ds) h in
    rw s.0 (zeros-value ds s.1)

some_head : (d : ℕ) (rest : Bool) → (d == 48 && rest) ≡ false → (d ≢ 48) ⊎ (rest ≡ false)
some_head d true h = inl (grind (arith, nat_tests))
some_head d false h = inr refl

some_of : (v p n k : ℕ) → k ≡ (0 + v) * p + n → 1 ≤ p → (1 ≤ v) ⊎ (1 ≤ n) → 1 ≤ k
some_of v p n k e one h = grind arith

pub some-value : (ds : List ℕ) → AllDigits 10 ds → list_all (λ d. d == 48) ds ≡ false → 1 ≤ digits_value 10 ds
some-value [] a h = cc
some-value (d ∷ ds) a h =
    let r = digit_at (d ∷ ds) 0 a (omega arith) in
    let v : digit_value d ≡ d - 48 = digit_is d (omega (arith, r)) (omega (arith, r)) in
    some_of (digit_value d) (10 ^ length ds) (digits_value 10 ds) _ (after-value (0 + digit_value d) ds) (one-le-pow (length ds) 10 (omega arith)) (elim (some_head d (list_all (λ d. d == 48) ds) h) [
      | inl other ↦ inl (omega (arith, r))
      | inr rest ↦ inr (some-value ds a.1 rest)
    ])

pub AllDigits-take : (n : ℕ) (ds : List ℕ) → AllDigits 10 ds → AllDigits 10 (take n ds)
AllDigits-take zero ds a = tt
AllDigits-take (suc n) [] a = tt
AllDigits-take (suc n) (d ∷ ds) a = (a.0, AllDigits-take n ds a.1)

pub AllDigits-drop : (n : ℕ) (ds : List ℕ) → AllDigits 10 ds → AllDigits 10 (drop n ds)
AllDigits-drop zero ds a = a
AllDigits-drop (suc n) [] a = tt
AllDigits-drop (suc n) (d ∷ ds) a = AllDigits-drop n ds a.1

pub AllDigits-append : (xs ys : List ℕ) → AllDigits 10 xs → AllDigits 10 ys → AllDigits 10 (xs ++ ys)
AllDigits-append [] ys a b = b
AllDigits-append (x ∷ xs) ys a b = (a.0, AllDigits-append xs ys a.1 b)

pub after_same : (ds : List ℕ) (n m : ℕ) → short n ≡ short m → short (digits_value_after 10 n ds) ≡ short (digits_value_after 10 m ds)
after_same [] n m e = e
after_same (d ∷ ds) n m e = after_same ds (n * 10 + digit_value d) (m * 10 + digit_value d) (short_same n m 10 (digit_value d) e (omega arith))

-- digits read in two parts
pub two_parts : (n m : ℕ) (xs ys : List ℕ) → short n ≡ short (digits_value_after 10 0 xs) → short m ≡ short (digits_value_after 10 n ys) → short m ≡ short (digits_value 10 (xs ++ ys))
two_parts n m xs ys e f = f ∙ after_same ys n (digits_value 10 xs) e ∙ ap short (sym (after-append 0 xs ys))
