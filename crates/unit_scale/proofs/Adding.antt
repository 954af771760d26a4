-- Short numbers in sums and products.
use Rattle.std.proofs.Common.{◌≡◌, ◌⊎◌, inl, inr, ℕ, ◌+◌, ◌*◌, ◌/◌, ◌%◌, ◌≤◌, ◌<◌, Option, Some, None, true, false, Bool, arith, refl, ap, sym, ◌∙◌, ◌==◌, ◌||◌, if◌then◌else◌, nat_lt, not, ◌≢◌}
use Rattle.std.specs.Option.{option_map, unwrap_or, is_none}
use Rattle.std.proofs.Math.Nat.{add-mul-mod_self_left, mod-add-div', mod-mod, add-mod, mul-add-div_right, mul-add-mod_self_right}
use Rattle.std.proofs.lemmas.Nat.{mul-mod}
use Rattle.std.proofs.lemmas.Bool.{cases_lt}
use Rattle.std.proofs.lemmas.Bool.Decides.{nat_tests}
use Rattle.unit_scale.specs.Short.{short}
use Rattle.unit_scale.specs.Seen.{Seen, SeenDemand, seen}
use Rattle.unit_scale.proofs.ShortLaws.{short_low, short_high}

both_over : (n m : ℕ) → 17592186044416000000 < n → 17592186044416000000 < m → nat_lt 17592186044416000000 n ≡ nat_lt 17592186044416000000 m
both_over n m h k = grind (arith, nat_tests)

-- over the limit together
pub over-short : (n : ℕ) → nat_lt 17592186044416000000 (short n) ≡ nat_lt 17592186044416000000 n
over-short n = elim (cases_lt 17592186044416000000 n) [
  | inl high ↦ both_over (short n) n (rw (short_high n high) (omega arith)) high
  | inr low ↦ ap (nat_lt 17592186044416000000) (short_low n low)
]

-- the last twelve digits are kept, and so the last six
twelve : (r c : ℕ) → (17592187 * 1000000000000 + r) % 1000000000000 ≡ r % 1000000000000
twelve r c = let e : 17592187 * 1000000000000 + r ≡ r + 1000000000000 * 17592187 = omega arith in rw e (add-mul-mod_self_left r 1000000000000 17592187)

pub last-short : (n : ℕ) → short n % 1000000000000 ≡ n % 1000000000000
last-short n = elim (cases_lt 17592186044416000000 n) [
  | inl high ↦ rw (short_high n high) (twelve (n % 1000000000000) 0 ∙ mod-mod n 1000000000000)
  | inr low ↦ ap (λ x. x % 1000000000000) (short_low n low)
]

-- a rest by a factor is told by the rest
rest_of_rest : (n a b : ℕ) → n % (a * b) % a ≡ n % a
rest_of_rest n a b =
    let e : n ≡ n % (a * b) + a * (b * (n / (a * b))) = omega (arith, mod-add-div' n (a * b)) in
    sym (add-mul-mod_self_left (n % (a * b)) a (b * (n / (a * b)))) ∙ ap (λ x. x % a) (sym e)

pub six-short : (n : ℕ) → short n % 1000000 ≡ n % 1000000
six-short n = sym (rest_of_rest (short n) 1000000 1000000) ∙ ap (λ x. x % 1000000) (last-short n) ∙ rest_of_rest n 1000000 1000000

add_mod : (a b c d m : ℕ) → a % m ≡ b % m → c % m ≡ d % m → (a + c) % m ≡ (b + d) % m
add_mod a b c d m e f = add-mod a c m ∙ ap (λ x. (x + c % m) % m) e ∙ ap (λ x. (b % m + x) % m) f ∙ sym (add-mod b d m)

pub seen_eq : (a b : Bool) (k l x y : ℕ) → a ≡ b → k ≡ l → x ≡ y → (let s : Seen = record { over = a; last = k; exact = x } in s) ≡ record { over = b; last = l; exact = y }
seen_eq a b k l x y p q r = rw (p, q, r) refl

exact_add : (a b c : Bool) (m n v w : ℕ) → a ≡ b → (if a then 0 else m) ≡ (if b then 0 else n) → (c ≡ false → w ≡ v) → (if a || c then 0 else m + w) ≡ (if b || c then 0 else n + v)
exact_add true b c m n v w e f g = rw (sym e) refl
exact_add false true c m n v w e f g = cc
exact_add false false true m n v w e f g = refl
exact_add false false false m n v w e f g = rw (f, g refl) refl

not_above : (n : ℕ) → nat_lt 17592186044416000000 n ≡ false → n ≤ 17592186044416000000
not_above n h = grind (arith, nat_tests)

low_of : (n : ℕ) → nat_lt 17592186044416000000 n ≡ false → short n ≡ n
low_of n h = short_low n (not_above n h)

-- a word's number more
pub seen-add : (a b : Bool) (m n v : ℕ) → seen a m ≡ seen b n → seen (a || nat_lt 17592186044416000000 (short v)) (m + short v) ≡ seen (b || nat_lt 17592186044416000000 v) (n + v)
seen-add a b m n v e =
    let o : a ≡ b = ap (λ (s : Seen). s.over) e in
    let l : m % 1000000 ≡ n % 1000000 = ap (λ (s : Seen). s.last) e in
    let x : (if a then 0 else m) ≡ (if b then 0 else n) = ap (λ (s : Seen). s.exact) e in
    let p : (a || nat_lt 17592186044416000000 (short v)) ≡ (b || nat_lt 17592186044416000000 v) = ap (λ y. a || y) (over-short v) ∙ ap (λ y. y || nat_lt 17592186044416000000 v) o in
    let q = exact_add a b (nat_lt 17592186044416000000 v) m n v (short v) o x (low_of v) in
    seen_eq _ _ _ _ _ _ p (add_mod m n (short v) v 1000000 l (six-short v)) (ap (λ y. if a || y then 0 else m + short v) (over-short v) ∙ q)

pub word-add : (o : Option ℕ) (more : ℕ) (a : Bool) (m : ℕ) → Some more ≡ option_map short o → (is_none o ≡ false) × ((b : Bool) (n : ℕ) → seen a m ≡ seen b n → seen (a || nat_lt 17592186044416000000 more) (m + more) ≡ seen (b || nat_lt 17592186044416000000 (unwrap_or o 0)) (n + unwrap_or o 0))
word-add None more a m e = cc
word-add (Some v) more a m e =
    let k : more ≡ short v = cc in
    (refl, λ b n s. rw k (seen-add a b m n v s))

product_mod : (a b : ℕ) → (short a * short b) % 1000000000000 ≡ (a * b) % 1000000000000
product_mod a b = mul-mod (short a) (short b) 1000000000000 ∙ ap (λ x. (x * (short b % 1000000000000)) % 1000000000000) (last-short a) ∙ ap (λ x. (a % 1000000000000 * x) % 1000000000000) (last-short b) ∙ sym (mul-mod a b 1000000000000)

-- the last six digits of a product, and the six before them
product_low : (a b : ℕ) → (short a * short b) % 1000000 ≡ (a * b) % 1000000
product_low a b = sym (rest_of_rest (short a * short b) 1000000 1000000) ∙ ap (λ x. x % 1000000) (product_mod a b) ∙ rest_of_rest (a * b) 1000000 1000000

middle : (n : ℕ) → n / 1000000 % 1000000 ≡ n % 1000000000000 / 1000000 % 1000000
middle n =
    let e : n ≡ n / 1000000000000 * 1000000 * 1000000 + n % 1000000000000 = omega (arith, mod-add-div' n 1000000000000) in
    let d : (n / 1000000000000 * 1000000 * 1000000 + n % 1000000000000) / 1000000 ≡ n / 1000000000000 * 1000000 + n % 1000000000000 / 1000000 = mul-add-div_right (omega arith) (n / 1000000000000 * 1000000) (n % 1000000000000) in
    ap (λ x. x / 1000000 % 1000000) e ∙ ap (λ x. x % 1000000) d ∙ mul-add-mod_self_right (n / 1000000000000) 1000000 (n % 1000000000000 / 1000000)

product_middle : (a b : ℕ) → (short a * short b) / 1000000 % 1000000 ≡ (a * b) / 1000000 % 1000000
product_middle a b = middle (short a * short b) ∙ ap (λ x. x / 1000000 % 1000000) (product_mod a b) ∙ sym (middle (a * b))

zero_short : (n : ℕ) → (n ≡ 0) ⊎ ((1 ≤ n) × (1 ≤ short n))
zero_short n = elim (cases_lt 17592186044416000000 n) [
  | inl high ↦ inr (omega arith, rw (short_high n high) (omega arith))
  | inr low ↦ elim (cases_lt 0 n) [ inl some ↦ inr (some, rw (short_low n low) some) | inr none ↦ inl (omega arith) ]
]

mul_one : (a b : ℕ) → 1 ≤ a → 1 ≤ b → 1 ≤ a * b
mul_one a b h k = grind arith

some_part : (n : ℕ) → 1 ≤ n → n % 1000000 ≡ 0 → (n / 1000000 == 0) ≡ false
some_part n h e = let q : 1 ≤ n / 1000000 = omega arith in grind (arith, nat_tests)

zero_left : (x y : ℕ) → (0 * x / 1000000 == 0) ≡ (0 * y / 1000000 == 0)
zero_left x y = let e : 0 * x ≡ 0 = omega arith in let f : 0 * y ≡ 0 = omega arith in rw (e, f) refl

zero_right : (x y : ℕ) → (x * 0 / 1000000 == 0) ≡ (y * 0 / 1000000 == 0)
zero_right x y = let e : x * 0 ≡ 0 = omega arith in let f : y * 0 ≡ 0 = omega arith in rw (e, f) refl

product_zero : (a b : ℕ) → (short a * short b) % 1000000 ≡ 0 → ((short a * short b) / 1000000 == 0) ≡ ((a * b) / 1000000 == 0)
product_zero a b e = elim (zero_short a) [
  | inl z ↦ rw z (ap (λ x. (x * short b) / 1000000 == 0) (short_low 0 (omega arith)) ∙ zero_left (short b) b)
  | inr s ↦ elim (zero_short b) [
    | inl z ↦ rw z (ap (λ x. (short a * x) / 1000000 == 0) (short_low 0 (omega arith)) ∙ zero_right (short a) a)
    | inr t ↦ some_part (short a * short b) (mul_one _ _ s.1 t.1) e ∙ sym (some_part (a * b) (mul_one _ _ s.0 t.0) (sym (product_low a b) ∙ e))
  ]
]

exact_mul : (p q : Bool) (a b : ℕ) → (p ≡ false → short a ≡ a) → (q ≡ false → short b ≡ b) → (if p || q then 0 else short a * short b / 1000000) ≡ (if p || q then 0 else a * b / 1000000)
exact_mul true q a b f g = refl
exact_mul false true a b f g = refl
exact_mul false false a b f g = rw (f refl, g refl) refl

demand_eq : (a b : Bool) (s t : Seen) → a ≡ b → s ≡ t → (let d : SeenDemand = record { left = a; size = s } in d) ≡ record { left = b; size = t }
demand_eq a b s t p q = rw (p, q) refl

fine_or : (x : ℕ) → x ≢ 0 → (false || false || not (x == 0)) ≡ true
fine_or x h = grind (arith, nat_tests)

whole_or : (x : ℕ) → x ≡ 0 → (false || false || not (x == 0)) ≡ false
whole_or x h = rw h refl

pub product-fine : (o p : Option ℕ) (u v : ℕ) → Some u ≡ option_map short o → Some v ≡ option_map short p → (u * v) % 1000000 ≢ 0 → (is_none o || is_none p || not ((unwrap_or o 0 * unwrap_or p 0) % 1000000 == 0)) ≡ true
product-fine None p u v e f h = cc
product-fine (Some a) None u v e f h = cc
product-fine (Some a) (Some b) u v e f h =
    let k : u ≡ short a = cc in
    let l : v ≡ short b = cc in
    fine_or ((a * b) % 1000000) (λ z. h (rw (k, l) (product_low a b ∙ z)))

pub demand-seen : (o p : Option ℕ) (u v : ℕ) (same : Bool) → Some u ≡ option_map short o → Some v ≡ option_map short p → (u * v) % 1000000 ≡ 0 → ((is_none o || is_none p || not ((unwrap_or o 0 * unwrap_or p 0) % 1000000 == 0)) ≡ false) × ((let s : SeenDemand = record { left = u * v / 1000000 == 0 || same; size = seen (nat_lt 17592186044416000000 u || nat_lt 17592186044416000000 v) (u * v / 1000000) } in s) ≡ record { left = unwrap_or o 0 * unwrap_or p 0 / 1000000 == 0 || same; size = seen (nat_lt 17592186044416000000 (unwrap_or o 0) || nat_lt 17592186044416000000 (unwrap_or p 0)) (unwrap_or o 0 * unwrap_or p 0 / 1000000) })
demand-seen None p u v same e f h = cc
demand-seen (Some a) None u v same e f h = cc
demand-seen (Some a) (Some b) u v same e f h =
    let k : u ≡ short a = cc in
    let l : v ≡ short b = cc in
    let z : (short a * short b) % 1000000 ≡ 0 = rw (k, l) at h in
    let w : (nat_lt 17592186044416000000 (short a) || nat_lt 17592186044416000000 (short b)) ≡ (nat_lt 17592186044416000000 a || nat_lt 17592186044416000000 b) = ap (λ y. y || nat_lt 17592186044416000000 (short b)) (over-short a) ∙ ap (λ y. nat_lt 17592186044416000000 a || y) (over-short b) in
    let s = seen_eq _ _ _ _ _ _ w (product_middle a b) (ap (λ y. if y then 0 else short a * short b / 1000000) w ∙ exact_mul (nat_lt 17592186044416000000 a) (nat_lt 17592186044416000000 b) a b (low_of a) (low_of b)) in
    (whole_or ((a * b) % 1000000) (sym (product_low a b) ∙ z), rw (k, l) (demand_eq _ _ _ _ (ap (λ y. y || same) (product_zero a b z)) s))
