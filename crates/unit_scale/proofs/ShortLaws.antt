-- Laws of the short numbers.
use Rattle.std.proofs.Common.{◌≡◌, ◌⊎◌, inl, inr, ℕ, ◌+◌, ◌*◌, ◌%◌, ◌/◌, ◌≤◌, ◌<◌, arith, sym, ◌∙◌, ap, refl, ◌^◌, add-one}
use Rattle.std.proofs.lemmas.Bool.Decides.{nat_tests}
use Rattle.std.proofs.Math.Nat.{add-mul-mod_self_left, mod-add-div', pow-suc, one-le-pow}
use Rattle.unit_scale.specs.Short.{short}

spread : (r k d m c : ℕ) → ((c * m + r) * k + d) % m ≡ (r * k + d) % m
spread r k d m c =
    let e : (c * m + r) * k + d ≡ (r * k + d) + m * (c * k) = omega arith in
    rw e (add-mul-mod_self_left (r * k + d) m (c * k))

-- the rest of a line depends on the rest of its argument alone
rest_same : (a k d m c : ℕ) → ((c * m + a % m) * k + d) % m ≡ (a * k + d) % m
rest_same a k d m c =
    let e : a / m * m + a % m ≡ a = omega (arith, mod-add-div' a m) in
    spread (a % m) k d m c ∙ sym (spread (a % m) k d m (a / m)) ∙ ap (λ x. (x * k + d) % m) e

pub short_low : (n : ℕ) → n ≤ 17592186044416000000 → short n ≡ n
unfolding short
short_low n h = grind (arith, nat_tests)

pub short_high : (n : ℕ) → 17592186044416000000 < n → short n ≡ 17592187000000000000 + n % 1000000000000
unfolding short
short_high n h = grind (arith, nat_tests)

either : (n l : ℕ) → (n ≤ l) ⊎ (l < n)
either n l = grind arith

above : (l x k d : ℕ) → l < x → 1 ≤ k → l < x * k + d
above l x k d h one = grind arith

pub short_step : (a k d : ℕ) → 1 ≤ k → short (short a * k + d) ≡ short (a * k + d)
short_step a k d one = elim (either a 17592186044416000000) [
  | inl low ↦ rw (short_low a low) refl
  | inr high ↦
      let s : short a ≡ 17592187 * 1000000000000 + a % 1000000000000 = short_high a high in
      let big : 17592186044416000000 < short a = omega arith in
      rw (short_high (short a * k + d) (above _ _ k d big one), short_high (a * k + d) (above _ _ k d high one), s)
      (ap (λ x. 17592187000000000000 + x) (rest_same a k d 1000000000000 17592187))
]

-- numbers with one short form stay so
pub short_same : (a b k d : ℕ) → short a ≡ short b → 1 ≤ k → short (a * k + d) ≡ short (b * k + d)
short_same a b k d e one = sym (short_step a k d one) ∙ ap (λ x. short (x * k + d)) e ∙ short_step b k d one

pub short_again : (a : ℕ) → short (short a) ≡ short a
short_again a =
    let l : short a * 1 + 0 ≡ short a = omega arith in
    let r : a * 1 + 0 ≡ a = omega arith in
    rw (l, r) at (short_step a 1 0 (omega arith))

-- one zero more, in short
pub raises : (n m s i : ℕ) → short n ≡ short (s * 10 ^ i) → m ≡ short (n * 10) → short m ≡ short (s * 10 ^ (i + 1))
raises n m s i e is =
    let same = short_same n (s * 10 ^ i) 10 0 e (omega arith) in
    let l : n * 10 + 0 ≡ n * 10 = omega arith in
    let p : s * 10 ^ i * 10 + 0 ≡ s * 10 ^ (i + 1) = rw (add-one i, pow-suc 10 i) (omega arith) in
    rw is (short_again (n * 10) ∙ (rw (l, p) at same))

pub short_times : (a b i : ℕ) → short a ≡ short b → short (a * 10 ^ i) ≡ short (b * 10 ^ i)
short_times a b i e =
    let l : a * 10 ^ i + 0 ≡ a * 10 ^ i = omega arith in
    let r : b * 10 ^ i + 0 ≡ b * 10 ^ i = omega arith in
    rw (l, r) at (short_same a b (10 ^ i) 0 e (one-le-pow i 10 (omega arith)))
