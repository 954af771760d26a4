-- Quotients without a rest.
use Rattle.std.proofs.Common.{◌≡◌, inl, inr, ℕ, ◌+◌, ◌*◌, ◌^◌, ◌/◌, ◌%◌, ◌≤◌, ◌<◌, Option, Some, None, arith, ap, refl, ◌==◌, if◌then◌else◌}
use Rattle.std.proofs.Math.Nat.{one-le-pow, mod-add-div'}
use Rattle.std.proofs.lemmas.Nat.{div-mul-add, mod-mul-add}
use Rattle.std.proofs.lemmas.Bool.Decides.{nat_tests}
use Rattle.std.proofs.lemmas.Bool.{cases_lt}
use Rattle.unit_scale.specs.Units.{quotient}

pub pow-ten : (n : ℕ) → 1 ≤ 10 ^ n
pow-ten n = one-le-pow n 10 (omega arith)

-- the quotient where the rest is 0, and none where it is not
pub quotient_whole : (a b : ℕ) → 1 ≤ b → quotient (a * b) b ≡ Some a
quotient_whole a b h =
    let m : (a * b + 0) % b ≡ 0 = mod-mul-add a b 0 h in
    let d : (a * b + 0) / b ≡ a = div-mul-add a b 0 h in
    let z : a * b + 0 ≡ a * b = omega arith in
    let m2 : a * b % b ≡ 0 = rw z at m in
    let d2 : a * b / b ≡ a = rw z at d in
    rw m2 (ap Some d2)

is_none : (r : ℕ) (x : Option ℕ) → 1 ≤ r → (if r == 0 then x else None) ≡ None
is_none r x h = grind (arith, nat_tests)

pub quotient_none : (a b r : ℕ) → 1 ≤ r → r < b → quotient (a * b + r) b ≡ None
quotient_none a b r some h =
    let m : (a * b + r) % b ≡ r = mod-mul-add a b r h in
    rw m (is_none r _ some)

zero : (r : ℕ) → r ≤ 0 → r ≡ 0
zero r h = omega arith

mul_lt : (r b c : ℕ) → r < b → 1 ≤ c → r * c < b * c
mul_lt r b c h one = grind arith

mul_some : (r c : ℕ) → 1 ≤ r → 1 ≤ c → 1 ≤ r * c
mul_some r c h one = grind arith

parts-mul : (q r b c : ℕ) → r < b → 1 ≤ c → quotient ((q * b + r) * c) (b * c) ≡ quotient (q * b + r) b
parts-mul q r b c h one = elim (cases_lt 0 r) [
  | inl some ↦
      let e : (q * b + r) * c ≡ q * (b * c) + r * c = omega arith in
      rw (e, quotient_none q b r some h, quotient_none q (b * c) (r * c) (mul_some r c some one) (mul_lt r b c h one)) refl
  | inr none ↦
      let e : (q * b + r) * c ≡ q * (b * c) = rw (zero r none) (omega arith) in
      let f : q * b + r ≡ q * b = omega arith in
      rw (e, f, quotient_whole q b (omega arith), quotient_whole q (b * c) (mul_some b c (omega arith) one)) refl
]

-- a common factor changes nothing
pub quotient-mul : (a b c : ℕ) → 1 ≤ b → 1 ≤ c → quotient (a * c) (b * c) ≡ quotient a b
quotient-mul a b c h one =
    let e : a / b * b + a % b ≡ a = omega (arith, mod-add-div' a b) in
    rw e at (parts-mul (a / b) (a % b) b c (omega arith) one)
