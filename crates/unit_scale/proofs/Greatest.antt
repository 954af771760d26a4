-- The greatest of numbers, and long numbers by their digits.
use Rattle.std.proofs.Common.{◌≡◌, ◌≢◌, inl, inr, ℕ, zero, suc, ◌+◌, ◌-◌, ◌*◌, ◌/◌, ◌%◌, ◌^◌, ◌≤◌, ◌<◌, max, List, [], ◌∷◌, ◌++◌, length, take, drop, get_or, Option, Some, None, true, false, Bool, arith, refl, ap, sym, subst, ◌∙◌, ◌==◌, if◌then◌else◌, nat_lt, length-append, length-drop, add-one}
use Rattle.std.specs.Option.{option_map, unwrap_or, is_none, is_some}
use Rattle.std.specs.Char.{digit_value}
use Rattle.std.specs.Str.Parse.{AllDigits, digits_value}
use Rattle.std.proofs.Math.Nat.{div-div-eq-div-mul, div-mul-le_self, pow-suc, mod-add-div', pow-le-pow_right}
use Rattle.std.proofs.lemmas.Nat.{le-div, pow-add, div-mul-add, mod-mul-add}
use Rattle.std.proofs.lemmas.Bool.{cases_lt, ltb-true, ltb-false}
use Rattle.std.proofs.lemmas.Bool.Decides.{nat_tests}
use Rattle.std.proofs.lemmas.List.{take_more, take-append-drop}
use Rattle.std.proofs.lemmas.Str.Parse.{digit_at}
use Rattle.std.proofs.lemmas.Int.Digits.{digits_value-lt}
use Rattle.sndlib_grammar.specs.declared.parse.NumberParts.{NumberParts}
use Rattle.sndlib_grammar.specs.Number.{Number, number_of}
use Rattle.sndlib_grammar.specs.Views.{number_view}
use Rattle.unit_scale.specs.declared.compare.LongNumber.{LongNumber}
use Rattle.unit_scale.specs.Short.{short}
use Rattle.unit_scale.specs.Units.{digits, quotient, units_of}
use Rattle.unit_scale.specs.Sizes.{is_fine, is_over, value, millionths, millionths_of}
use Rattle.unit_scale.proofs.Adding.{over-short}
use Rattle.sndlib_grammar.specs.Number.{AreDigits}
use Rattle.unit_scale.specs.Largest.{amount_of, best_amount, IsFit, IsBest, IsLong, AreLongDigits, long_digit, written}
use Rattle.unit_scale.proofs.Quotients.{pow-ten}
use Rattle.unit_scale.proofs.UnitLaws.{units_raise, units_cut}
use Rattle.unit_scale.proofs.ShortLaws.{short_low, short_high}
use Rattle.unit_scale.proofs.DigitLaws.{after-append, after-value, digit_is, AllDigits-drop, AllDigits-append}

-- ---- digits at a place

-- the value of digits, by those up to a place and those behind it
split_at : (ds : List ℕ) (k : ℕ) → digits_value 10 ds ≡ digits_value 10 (take k ds) * 10 ^ length (drop k ds) + digits_value 10 (drop k ds)
split_at ds k = ap (digits_value 10) (sym (take-append-drop k ds)) ∙ after-append 0 (take k ds) (drop k ds) ∙ after-value (digits_value 10 (take k ds)) (drop k ds)

-- cut off behind a place
cut_at : (ds : List ℕ) (k q : ℕ) → AllDigits 10 ds → length ds ≡ k + q → digits_value 10 ds / 10 ^ q ≡ digits_value 10 (take k ds)
cut_at ds k q all size =
    let rest : length (drop k ds) ≡ q = omega (arith, length-drop k ds) in
    let e : digits_value 10 ds ≡ digits_value 10 (take k ds) * 10 ^ q + digits_value 10 (drop k ds) = split_at ds k ∙ ap (λ n. digits_value 10 (take k ds) * 10 ^ n + digits_value 10 (drop k ds)) rest in
    let lt : digits_value 10 (drop k ds) < 10 ^ q = subst (λ n. digits_value 10 (drop k ds) < 10 ^ n) rest (digits_value-lt 10 (drop k ds) (AllDigits-drop k ds all)) in
    ap (λ n. n / 10 ^ q) e ∙ div-mul-add (digits_value 10 (take k ds)) (10 ^ q) (digits_value 10 (drop k ds)) lt

last_digit : (ds : List ℕ) (x : ℕ) → digit_value x < 10 → digits_value 10 (ds ++ x ∷ []) % 10 ≡ digit_value x
last_digit ds x lt = ap (λ n. n % 10) (after-append 0 ds (x ∷ [])) ∙ mod-mul-add (digits_value 10 ds) 10 (digit_value x) lt

take_one : (ds : List ℕ) (k : ℕ) → k < length ds → take (k + 1) ds ≡ take k ds ++ get_or ds k 0 ∷ []
take_one ds k h = take_more ds k 0 h

-- the digit that stands q places from the right
pub right_digit : (ds : List ℕ) (k q : ℕ) → AllDigits 10 ds → length ds ≡ k + 1 + q → get_or ds k 0 - 48 ≡ digits_value 10 ds / 10 ^ q % 10
right_digit ds k q all size =
    let in_ds : k < length ds = omega arith in
    let d = digit_at ds k all in_ds in
    let v : digit_value (get_or ds k 0) ≡ get_or ds k 0 - 48 = digit_is (get_or ds k 0) (omega (arith, d)) (omega (arith, d)) in
    let small : digit_value (get_or ds k 0) < 10 = omega (arith, d) in
    sym (ap (λ n. n % 10) (cut_at ds (k + 1) q all size ∙ ap (digits_value 10) (take_one ds k in_ds)) ∙ last_digit (take k ds) (get_or ds k 0) small ∙ v)

pub past_digits : (ds : List ℕ) (q : ℕ) → AllDigits 10 ds → length ds ≤ q → 0 ≡ digits_value 10 ds / 10 ^ q % 10
past_digits ds q all h =
    let most : 10 ^ length ds ≤ 10 ^ q = pow-le-pow_right (omega arith) h in
    let lt : digits_value 10 ds < 10 ^ q = omega (arith, digits_value-lt 10 ds all, most) in
    let none : digits_value 10 ds / 10 ^ q ≡ 0 = div_below (digits_value 10 ds) (10 ^ q) lt in
    sym (ap (λ n. n % 10) none)
  where
    div_below : (a b : ℕ) → a < b → a / b ≡ 0
    div_below a b lt = let e : 0 * b + a ≡ a = omega arith in ap (λ n. n / b) (sym e) ∙ div-mul-add 0 b a lt

-- ---- two lists of digits

get_front : (xs ys : List ℕ) (k : ℕ) → k < length xs → get_or (xs ++ ys) k 0 ≡ get_or xs k 0
get_front [] ys k h = absurd (omega arith)
get_front (x ∷ xs) ys zero h = refl
get_front (x ∷ xs) ys (suc k) h = get_front xs ys k (omega arith)

get_back : (xs ys : List ℕ) (k : ℕ) → get_or (xs ++ ys) (length xs + k) 0 ≡ get_or ys k 0
get_back [] ys k = let e : 0 + k ≡ k = omega arith in ap (λ n. get_or ys n 0) e
get_back (x ∷ xs) ys k = let e : length (x ∷ xs) + k ≡ suc (length xs + k) = omega arith in ap (λ n. get_or (x ∷ (xs ++ ys)) n 0) e ∙ get_back xs ys k

pub in_fraction : (w f : List ℕ) (q : ℕ) → AllDigits 10 w → AllDigits 10 f → q < length f → get_or f (length f - 1 - q) 0 - 48 ≡ digits_value 10 (w ++ f) / 10 ^ q % 10
in_fraction w f q a b h =
    let k = length f - 1 - q in
    let size : length (w ++ f) ≡ length w + k + 1 + q = omega (arith, length-append w f) in
    ap (λ n. n - 48) (sym (get_back w f k)) ∙ right_digit (w ++ f) (length w + k) q (AllDigits-append w f a b) size

pub in_whole : (w f : List ℕ) (q left : ℕ) → AllDigits 10 w → AllDigits 10 f → left + length f ≡ q → left < length w → get_or w (length w - 1 - left) 0 - 48 ≡ digits_value 10 (w ++ f) / 10 ^ q % 10
in_whole w f q left a b e h =
    let k = length w - 1 - left in
    let size : length (w ++ f) ≡ k + 1 + q = omega (arith, length-append w f) in
    let front : k < length w = omega arith in
    ap (λ n. n - 48) (sym (get_front w f k front)) ∙ right_digit (w ++ f) k q (AllDigits-append w f a b) size

pub in_none : (w f : List ℕ) (q : ℕ) → AllDigits 10 w → AllDigits 10 f → length w + length f ≤ q → 0 ≡ digits_value 10 (w ++ f) / 10 ^ q % 10
in_none w f q a b h = let size : length (w ++ f) ≤ q = omega (arith, length-append w f) in past_digits (w ++ f) q (AllDigits-append w f a b) size

-- ---- long numbers

quotient_back : (a b v : ℕ) → quotient a b ≡ Some v → v * b ≡ a
quotient_back a b v h =
    let go = elim (a % b == 0) as (λ (c : Bool). (a % b == 0) ≡ c → (if c then Some (a / b) else None) ≡ Some v → v * b ≡ a) [
      | true ↦ λ e k.
          (let z : a % b ≡ 0 = grind (arith, nat_tests) in
          let q : a / b ≡ v = cc in
          let d : a % b + a / b * b ≡ a = mod-add-div' a b in
          ap (λ n. n * b) (sym q) ∙ omega arith)
      | false ↦ λ e k. absurd cc
    ] in
    go refl h

known : (o : Option ℕ) → is_some o ≡ true → o ≡ Some (unwrap_or o 0)
known None h = absurd cc
known (Some v) h = refl

pub long_is : (n : LongNumber) (p : NumberParts) → IsFit p → n.whole.now ≡ p.whole.now → n.fraction.now ≡ p.fraction.now → n.zeros ≡ p.up + 6 - (length p.fraction.now + p.down) → n.cut ≡ length p.fraction.now + p.down - (p.up + 6) → IsLong n (amount_of (number_view p))
long_is n p fit w f z c =
    let v = amount_of (number_view p) in
    let d = digits (number_view p) in
    let is : units_of 6 (number_view p) ≡ Some v = known (units_of 6 (number_view p)) fit.some in
    let same_digits : written n ≡ d = ap (λ xs. digits_value 10 (xs ++ n.fraction.now)) w ∙ ap (λ ys. digits_value 10 (p.whole.now ++ ys)) f in
    let up = p.up + 6 in
    let pl = length p.fraction.now + p.down in
    elim (cases_lt up pl) [
      | inl cut ↦
          (let q : quotient d (10 ^ (pl - up)) ≡ Some v = sym (units_cut (number_view p) 6 cut) ∙ is in
          let b = quotient_back d (10 ^ (pl - up)) v q in
          let none : n.zeros ≡ 0 = omega arith in
          record { same = ap (λ k. v * 10 ^ k) c ∙ b ∙ sym (ap (λ k. written n * 10 ^ k) none ∙ ones (written n) ∙ same_digits); one = inl none })
      | inr raise ↦
          (let q : Some (d * 10 ^ (up - pl)) ≡ Some v = sym (units_raise (number_view p) 6 raise) ∙ is in
          let b : d * 10 ^ (up - pl) ≡ v = cc in
          let none : n.cut ≡ 0 = omega arith in
          record { same = ap (λ k. v * 10 ^ k) none ∙ ones v ∙ sym b ∙ sym (ap (λ k. written n * 10 ^ k) z ∙ ap (λ x. x * 10 ^ (up - pl)) same_digits); one = inr none })
    ]
  where
    ones : (x : ℕ) → x * 10 ^ 0 ≡ x
    ones x = omega arith

below_mul : (r b c : ℕ) → r < b → 1 ≤ c → r * c < b * c
below_mul r b c h one = grind arith

scaled : (a b c : ℕ) → 1 ≤ b → 1 ≤ c → a * c / (b * c) ≡ a / b
scaled a b c h one =
    let s : a / b * b + a % b ≡ a = omega (arith, mod-add-div' a b) in
    let r : a % b < b = omega arith in
    let m : a % b * c < b * c = below_mul (a % b) b c r one in
    let e : a * c ≡ a / b * (b * c) + a % b * c = ap (λ x. x * c) (sym s) ∙ omega arith in
    ap (λ x. x / (b * c)) e ∙ div-mul-add (a / b) (b * c) (a % b * c) m

-- v / 10 ^ p, by the digits
quotient_digits : (v d c z p : ℕ) → v * 10 ^ c ≡ d * 10 ^ z → z ≤ p → v / 10 ^ p ≡ d / 10 ^ (p - z + c)
quotient_digits v d c z p e h =
    let a : v / 10 ^ p ≡ v * 10 ^ c / (10 ^ p * 10 ^ c) = sym (scaled v (10 ^ p) (10 ^ c) (pow-ten p) (pow-ten c)) in
    let k : 10 ^ p * 10 ^ c ≡ 10 ^ (p - z + c) * 10 ^ z = sym (pow-add 10 p c) ∙ ap (λ n. 10 ^ n) (let s : p + c ≡ p - z + c + z = omega arith in s) ∙ pow-add 10 (p - z + c) z in
    a ∙ ap (λ x. x / (10 ^ p * 10 ^ c)) e ∙ ap (λ x. d * 10 ^ z / x) k ∙ scaled d (10 ^ (p - z + c)) (10 ^ z) (pow-ten (p - z + c)) (pow-ten z)

zeros_digit : (d z p : ℕ) → p < z → d * 10 ^ z / 10 ^ p % 10 ≡ 0
zeros_digit d z p h =
    let e : 10 ^ z ≡ 10 * 10 ^ (z - p - 1) * 10 ^ p = ap (λ n. 10 ^ n) (let s : z ≡ z - p - 1 + 1 + p = omega arith in s) ∙ pow-add 10 (z - p - 1 + 1) p ∙ ap (λ x. x * 10 ^ p) (rw (add-one (z - p - 1), pow-suc 10 (z - p - 1)) (omega arith)) in
    let f : d * 10 ^ z ≡ d * 10 ^ (z - p - 1) * 10 * 10 ^ p + 0 = ap (λ x. d * x) e ∙ omega arith in
    let q : d * 10 ^ z / 10 ^ p ≡ d * 10 ^ (z - p - 1) * 10 = ap (λ x. x / 10 ^ p) f ∙ div-mul-add (d * 10 ^ (z - p - 1) * 10) (10 ^ p) 0 (pow-ten p) in
    ap (λ x. x % 10) q ∙ (let g : d * 10 ^ (z - p - 1) * 10 ≡ d * 10 ^ (z - p - 1) * 10 + 0 = omega arith in ap (λ x. x % 10) g ∙ mod-mul-add (d * 10 ^ (z - p - 1)) 10 0 (omega arith))

-- the digit at a place is that of the number
pub digit_of : (n : LongNumber) (v p : ℕ) → IsLong n v → long_digit n p ≡ v / 10 ^ p % 10
digit_of n v p long =
    let go = elim (nat_lt p n.zeros) as (λ (b : Bool). nat_lt p n.zeros ≡ b → (if b then 0 else written n / 10 ^ (p - n.zeros + n.cut) % 10) ≡ v / 10 ^ p % 10) [
      | true ↦ λ e. in_zeros (ltb-true p n.zeros e)
      | false ↦ λ e. sym (ap (λ x. x % 10) (quotient_digits v (written n) n.cut n.zeros p long.same (ltb-false p n.zeros e)))
    ] in
    go refl
  where
    in_zeros : p < n.zeros → 0 ≡ v / 10 ^ p % 10
    in_zeros lt =
        let no_cut : n.cut ≡ 0 = elim long.one [ inl none ↦ absurd (omega arith) | inr none ↦ none ] in
        let ones : v * 10 ^ 0 ≡ v = omega arith in
        let is : v ≡ written n * 10 ^ n.zeros = sym ones ∙ ap (λ k. v * 10 ^ k) (sym no_cut) ∙ long.same in
        sym (ap (λ x. x / 10 ^ p % 10) is ∙ zeros_digit (written n) n.zeros p lt)

-- a number is below ten to the number of its digits
pub below_count : (n : LongNumber) (v top : ℕ) → IsLong n v → AreLongDigits n → length n.whole.now + length n.fraction.now - n.cut + n.zeros ≤ top → v / 10 ^ top ≡ 0
below_count n v top long all h =
    let ds = n.whole.now ++ n.fraction.now in
    let size : length ds ≡ length n.whole.now + length n.fraction.now = length-append n.whole.now n.fraction.now in
    let le : n.zeros ≤ top = omega arith in
    let q = quotient_digits v (written n) n.cut n.zeros top long.same le in
    let most : 10 ^ length ds ≤ 10 ^ (top - n.zeros + n.cut) = pow-le-pow_right (omega arith) (omega arith) in
    let lt : written n < 10 ^ (top - n.zeros + n.cut) = omega (arith, digits_value-lt 10 ds (AllDigits-append n.whole.now n.fraction.now all.whole all.fraction), most) in
    q ∙ div_below (written n) (10 ^ (top - n.zeros + n.cut)) lt
  where
    div_below : (a b : ℕ) → a < b → a / b ≡ 0
    div_below a b lt = let e : 0 * b + a ≡ a = omega arith in ap (λ n. n / b) (sym e) ∙ div-mul-add 0 b a lt

-- ---- from the left

next_place : (v p : ℕ) → v / 10 ^ p ≡ v / 10 ^ (p + 1) * 10 + v / 10 ^ p % 10
next_place v p =
    let e : 10 ^ (p + 1) ≡ 10 ^ p * 10 = rw (add-one p, pow-suc 10 p) refl in
    let d : v / 10 ^ (p + 1) ≡ v / 10 ^ p / 10 = ap (λ x. v / x) e ∙ sym (div_twice v (10 ^ p) 10) in
    omega (arith, mod-add-div' (v / 10 ^ p) 10, d)
  where
    div_twice : (a b c : ℕ) → a / b / c ≡ a / (b * c)
    div_twice a b c = div-div-eq-div-mul a b c

pub equal_so_far : (v u p : ℕ) → v / 10 ^ (p + 1) ≡ u / 10 ^ (p + 1) → v / 10 ^ p % 10 ≡ u / 10 ^ p % 10 → v / 10 ^ p ≡ u / 10 ^ p
equal_so_far v u p e d = next_place v p ∙ ap (λ x. x * 10 + v / 10 ^ p % 10) e ∙ ap (λ x. u / 10 ^ (p + 1) * 10 + x) d ∙ sym (next_place u p)

pub greater_at : (v u p : ℕ) → v / 10 ^ (p + 1) ≡ u / 10 ^ (p + 1) → u / 10 ^ p % 10 < v / 10 ^ p % 10 → u < v
greater_at v u p e d =
    let a = next_place v p in
    let b = next_place u p in
    let lt : u / 10 ^ p < v / 10 ^ p = omega arith in
    elim (cases_lt u v) [ inl below ↦ below | inr above ↦ (let mono = div_mono v u (10 ^ p) (pow-ten p) above in absurd (omega arith)) ]
  where
    div_mono : (a b c : ℕ) → 1 ≤ c → a ≤ b → a / c ≤ b / c
    div_mono a b c one h = le-div (a / c) b c one (omega (arith, div-mul-le_self a c))

pub past_kept : (n : LongNumber) (place : ℕ) → AreLongDigits n → n.zeros ≤ place → length n.whole.now + length n.fraction.now - n.cut ≤ place - n.zeros → 0 ≡ long_digit n place
past_kept n place all h k =
    let q = in_none n.whole.now n.fraction.now (place - n.zeros + n.cut) all.whole all.fraction (omega arith) in
    let go = elim (nat_lt place n.zeros) as (λ (b : Bool). nat_lt place n.zeros ≡ b → 0 ≡ (if b then 0 else written n / 10 ^ (place - n.zeros + n.cut) % 10))
    [ true ↦ λ e. refl | false ↦ λ e. q ] in
    go refl

-- ---- short numbers in comparisons

limit_low : (n : ℕ) → short n ≤ 17592186044416000000 → n ≤ 17592186044416000000
limit_low n h = elim (cases_lt 17592186044416000000 n) [ inl high ↦ (let e = short_high n high in absurd (omega arith)) | inr low ↦ low ]

limit_high : (n : ℕ) → 17592186044416000000 < short n → 17592186044416000000 < n
limit_high n h = elim (cases_lt 17592186044416000000 n) [ inl high ↦ high | inr low ↦ (let e = short_low n low in absurd (omega arith)) ]

lt_same : (a b c d : ℕ) → (a < b → c < d) → (b ≤ a → d ≤ c) → nat_lt a b ≡ nat_lt c d
lt_same a b c d f g = elim (nat_lt a b) as (λ (x : Bool). nat_lt a b ≡ x → x ≡ nat_lt c d)
    [ true ↦ λ e. is_below c d (f (ltb-true a b e)) | false ↦ λ e. is_above c d (g (ltb-false a b e)) ] refl
  where
    is_below : (a b : ℕ) → a < b → true ≡ nat_lt a b
    is_below a b h = grind (arith, nat_tests)

    is_above : (a b : ℕ) → b ≤ a → false ≡ nat_lt a b
    is_above a b h = grind (arith, nat_tests)

-- where the second is exact
pub short_less : (m n : ℕ) → short n ≤ 17592186044416000000 → nat_lt (short m) (short n) ≡ nat_lt m n
short_less m n h =
    let low = limit_low n h in
    let e : short n ≡ n = short_low n low in
    elim (cases_lt 17592186044416000000 m) [
      | inl high ↦ (let f = short_high m high in lt_same (short m) (short n) m n (λ x. absurd (omega arith)) (λ x. omega arith))
      | inr same ↦ ap (λ k. nat_lt k (short n)) (short_low m same) ∙ ap (nat_lt m) e
    ]

pub over_less : (m n : ℕ) → short m ≤ 17592186044416000000 → 17592186044416000000 < short n → true ≡ nat_lt m n
over_less m n low high = let a = limit_low m low in let b = limit_high n high in is_below m n (omega arith)
  where
    is_below : (a b : ℕ) → a < b → true ≡ nat_lt a b
    is_below a b h = grind (arith, nat_tests)

pub best_short : (o : Option NumberParts) (size : ℕ) → IsBest o size → size ≡ short (best_amount o)
best_short None size h = h ∙ sym (short_low 0 (omega arith))
best_short (Some p) size h = h.1

-- ---- a comparison from the left

-- the digits at a place tell which is greater, where those before it are the same
pub digits_tell : (v u place p x y : ℕ) → place ≡ p + 1 → v / 10 ^ place ≡ u / 10 ^ place → x ≡ v / 10 ^ p % 10 → y ≡ u / 10 ^ p % 10 → x ≢ y → nat_lt y x ≡ nat_lt u v
digits_tell v u place p x y at e dx dy other =
    let e1 : v / 10 ^ (p + 1) ≡ u / 10 ^ (p + 1) = subst (λ n. v / 10 ^ n ≡ u / 10 ^ n) at e in
    lt_same y x u v
    (λ lt. greater_at v u p e1 (subst (λ n. n < v / 10 ^ p % 10) dy (subst (λ n. y < n) dx lt)))
    (λ le. (let lt : x < y = apart x y other le in let below = greater_at u v p (sym e1) (subst (λ n. n < u / 10 ^ p % 10) dx (subst (λ n. x < n) dy lt)) in omega arith))
  where
    apart : (x y : ℕ) → x ≢ y → x ≤ y → x < y
    apart x y ne le = omega arith

pub digits_same : (v u place p x y : ℕ) → place ≡ p + 1 → v / 10 ^ place ≡ u / 10 ^ place → x ≡ v / 10 ^ p % 10 → y ≡ u / 10 ^ p % 10 → x ≡ y → v / 10 ^ p ≡ u / 10 ^ p
digits_same v u place p x y at e dx dy same =
    let e1 : v / 10 ^ (p + 1) ≡ u / 10 ^ (p + 1) = subst (λ n. v / 10 ^ n ≡ u / 10 ^ n) at e in
    equal_so_far v u p e1 (sym dx ∙ same ∙ dy)

-- ---- one capacity more

pub record WordFacts (word : List ℕ) (p : NumberParts) (size : ℕ) : Type 0 where
  pub fine : is_fine word ≡ false
  pub value_is : value word ≡ amount_of (number_view p)
  pub over : nat_lt 17592186044416000000 size ≡ is_over word
  pub fit : IsFit p
  pub size_is : size ≡ short (amount_of (number_view p))

word_of : (o : Option Number) (n : Number) → Some n ≡ o → millionths_of o ≡ units_of 6 n
word_of o n e = ap millionths_of (sym e)

pub word_facts : (word : List ℕ) (p : NumberParts) (size : ℕ) → Some (number_view p) ≡ number_of word → Some size ≡ option_map short (units_of 6 (number_view p)) → AreDigits (number_view p) → length p.whole.now + length p.fraction.now < 2 ^ 63 → WordFacts word p size
word_facts word p size is sized all small =
    facts (units_of 6 (number_view p)) refl
  where
    facts : (o : Option ℕ) → units_of 6 (number_view p) ≡ o → WordFacts word p size
    facts None e = (let none : Some size ≡ None = sized ∙ ap (option_map short) e in absurd cc)
    facts (Some v) e =
        let m : millionths word ≡ Some v = word_of (number_of word) (number_view p) is ∙ e in
        let k : Some size ≡ Some (short v) = sized ∙ ap (option_map short) e in
        let s : size ≡ short v = cc in
        let a : v ≡ amount_of (number_view p) = ap (λ (o : Option ℕ). unwrap_or o 0) (sym e) in
        let w : value word ≡ v = ap (λ (o : Option ℕ). unwrap_or o 0) m in
        record {
          fine = ap is_none m;
          value_is = w ∙ a;
          over = ap (nat_lt 17592186044416000000) s ∙ over-short v ∙ ap (nat_lt 17592186044416000000) (sym w);
          fit = record { digits = all; some = ap is_some e; small = small };
          size_is = s ∙ ap short a;
        }

pub greater_is : (m n v : ℕ) → true ≡ nat_lt m n → v ≡ n → n ≡ max m v
greater_is m n v h e = let lt = ltb-true m n (sym h) in omega arith

pub greater_not : (m n v : ℕ) → false ≡ nat_lt m n → v ≡ n → m ≡ max m v
greater_not m n v h e = let le = ltb-false m n (sym h) in omega arith
