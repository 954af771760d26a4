-- A quotient by a rate: the guess is the quotient or one less.
use Rattle.std.proofs.Common.{◌≡◌, ℕ, ◌+◌, ◌-◌, ◌*◌, ◌/◌, ◌^◌, ◌<◌, ◌≤◌, Bool, true, false, arith, refl, sym, ap, ◌∙◌, subst}
use Rattle.std.specs.Prelude.{◌==◌, if◌then◌else◌}
use Rattle.std.proofs.lemmas.Bool.Decides.{nat_tests}
use Rattle.std.proofs.Math.Nat.{mul-le-mul_left, mul-le-mul_right, mul_assoc, div-mul-le_self, lt-div-mul-add, div-eq_of_lt-le, div-le_of_le-mul, zero-div}
use mir.Val.{bool_byte}
use lib.Dec.{leb}
use Rattle.flow_model.specs.declared.net.Cell.{Cell}
use Rattle.flow_model.specs.declared.setting.Setting.{Setting}
use Rattle.flow_model.specs.Lengths.{exponent}
use Rattle.fixed_exp.specs.Kept.{HasExponentRate, factor_of}
use Rattle.fixed_exp.specs.declared.rates.Rate.{Rate}

-- no guess is above the quotient
pub guess_low : (w least cap rate guess : ℕ) → rate ≡ 2 ^ 52 * least / cap → guess ≡ w * rate / 2 ^ 40 → guess * cap ≤ w * 4096 * least
guess_low w least cap rate guess r g =
    let a : rate * cap ≤ 2 ^ 52 * least = subst (λ (x : ℕ). x * cap ≤ 2 ^ 52 * least) (sym r) (div-mul-le_self (2 ^ 52 * least) cap) in
    let b : guess * 2 ^ 40 ≤ w * rate = omega (arith, g) in
    let b' : guess * 2 ^ 40 * cap ≤ w * rate * cap = mul-le-mul_right cap b in
    let a' : w * (rate * cap) ≤ w * (2 ^ 52 * least) = mul-le-mul_left w a in
    grind (arith, a', b', mul_assoc w rate cap)

-- the quotient is at most one more
pub guess_high : (w least cap rate guess : ℕ) → w ≤ 2 ^ 40 → 1 ≤ cap → rate ≡ 2 ^ 52 * least / cap → guess ≡ w * rate / 2 ^ 40 → w * 4096 * least < guess * cap + 2 * cap
guess_high w least cap rate guess small p r g =
    let a : 2 ^ 52 * least ≤ rate * cap + cap = omega (arith, subst (λ (x : ℕ). 2 ^ 52 * least < x * cap + cap) (sym r) (lt-div-mul-add {a = 2 ^ 52 * least} p)) in
    let b : w * rate + 1 ≤ guess * 2 ^ 40 + 2 ^ 40 = omega (arith, g) in
    let b' : (w * rate + 1) * cap ≤ (guess * 2 ^ 40 + 2 ^ 40) * cap = mul-le-mul_right cap b in
    let a' : w * (2 ^ 52 * least) ≤ w * (rate * cap + cap) = mul-le-mul_left w a in
    let c : w * cap ≤ 2 ^ 40 * cap = mul-le-mul_right cap small in
    grind (arith, a', b', c, mul_assoc w rate cap)

-- so it is told by the rest
pub quotient_same : (above cap guess : ℕ) → guess * cap ≤ above → above - guess * cap < cap → above / cap ≡ guess
quotient_same above cap guess low less = div-eq_of_lt-le cap low (grind (arith, low, less))

pub quotient_more : (above cap guess : ℕ) → above < guess * cap + 2 * cap → cap ≤ above - guess * cap → above / cap ≡ guess + 1
quotient_more above cap guess high more = div-eq_of_lt-le cap (grind (arith, more)) (grind (arith, high))

pub byte_small : (b : Bool) → bool_byte b ≤ 1
byte_small true = omega arith
byte_small false = omega arith

pub told_by_rest : (above below guess : ℕ) → guess * below ≤ above → above < guess * below + 2 * below → guess + bool_byte (leb below (above - guess * below)) ≡ above / below
told_by_rest above below guess low high = by_test (leb below (above - guess * below)) refl
  where
    by_test : (b : Bool) → leb below (above - guess * below) ≡ b → guess + bool_byte b ≡ above / below
    by_test true e = sym (quotient_more above below guess high (grind (arith, nat_tests)))
    by_test false e = let n : guess + 0 ≡ guess = omega arith in n ∙ sym (quotient_same above below guess low (grind (arith, nat_tests)))

pub rate_small : (least cap rate : ℕ) → least ≤ cap → rate ≡ 2 ^ 52 * least / cap → rate ≤ 2 ^ 52
rate_small least cap rate h r = subst (λ (x : ℕ). x ≤ 2 ^ 52) (sym r) (div-le_of_le-mul cap (omega (arith, h)))

pub guess_small : (w rate guess : ℕ) → w ≤ 2 ^ 40 → guess ≡ w * rate / 2 ^ 40 → guess ≤ rate
guess_small w rate guess small g = let m : w * rate ≤ 2 ^ 40 * rate = mul-le-mul_right rate small in omega (arith, m, g)

-- the whole and the part of a rate
pub rate_made : (over below whole part : ℕ) → 1 ≤ below → whole ≡ over / below → part ≡ (over - whole * below) * 2 ^ 64 / below → whole * 2 ^ 64 + part ≡ over * 2 ^ 64 / below
rate_made over below whole part some w p =
    let rest : ℕ = over - whole * below in
    let whole_low : whole * below ≤ over = subst (λ (x : ℕ). x * below ≤ over) (sym w) (div-mul-le_self over below) in
    let all : over ≡ whole * below + rest = omega (arith, whole_low) in
    let part_low : part * below ≤ rest * 2 ^ 64 = subst (λ (x : ℕ). x * below ≤ rest * 2 ^ 64) (sym p) (div-mul-le_self (rest * 2 ^ 64) below) in
    let part_high : rest * 2 ^ 64 < part * below + below = subst (λ (x : ℕ). rest * 2 ^ 64 < x * below + below) (sym p) (lt-div-mul-add {a = rest * 2 ^ 64} some) in
    sym (div-eq_of_lt-le below (grind (arith, all, part_low)) (grind (arith, all, part_high)))

-- what was read of a rate is so too
pub rate_read : (s : Setting) (cell : Cell) (rate : Rate) (over whole part below : ℕ) → HasExponentRate s cell rate → 1 ≤ rate.below → over ≡ factor_of s → whole ≡ rate.whole → part ≡ rate.part → below ≡ rate.below
    → whole * 2 ^ 64 + part ≡ over * 2 ^ 64 / below
rate_read s cell rate over whole part below has some o w p b = (λ i. w i * 2 ^ 64 + p i) ∙ ((has some).value ∙ (λ i. sym o i * 2 ^ 64 / sym b i))

-- the product of a load and its rate, whole and in part, is the quotient or one less
pub rate_low : (load over below whole part guess : ℕ) → whole * 2 ^ 64 + part ≡ over * 2 ^ 64 / below → guess ≡ load * whole + load * part / 2 ^ 64 → guess * below ≤ load * over
rate_low load over below whole part guess v g =
    let rate : ℕ = whole * 2 ^ 64 + part in
    let low : rate * below ≤ over * 2 ^ 64 = subst (λ (x : ℕ). x * below ≤ over * 2 ^ 64) (sym v) (div-mul-le_self (over * 2 ^ 64) below) in
    let m : load * rate ≡ load * whole * 2 ^ 64 + load * part = grind arith in
    let b : guess * 2 ^ 64 ≤ load * rate = omega (arith, m, g) in
    let b' : guess * 2 ^ 64 * below ≤ load * rate * below = mul-le-mul_right below b in
    let a' : load * (rate * below) ≤ load * (over * 2 ^ 64) = mul-le-mul_left load low in
    grind (arith, a', b', mul_assoc load rate below)

pub rate_high : (load over below whole part guess : ℕ) → whole * 2 ^ 64 + part ≡ over * 2 ^ 64 / below → guess ≡ load * whole + load * part / 2 ^ 64 → 1 ≤ below → load ≤ 2 ^ 64
    → load * over < guess * below + 2 * below
rate_high load over below whole part guess v g some small =
    let rate : ℕ = whole * 2 ^ 64 + part in
    let high : over * 2 ^ 64 ≤ rate * below + below = omega (arith, subst (λ (x : ℕ). over * 2 ^ 64 < x * below + below) (sym v) (lt-div-mul-add {a = over * 2 ^ 64} some)) in
    let m : load * rate ≡ load * whole * 2 ^ 64 + load * part = grind arith in
    let b : load * rate + 1 ≤ guess * 2 ^ 64 + 2 ^ 64 = omega (arith, m, g) in
    let b' : (load * rate + 1) * below ≤ (guess * 2 ^ 64 + 2 ^ 64) * below = mul-le-mul_right below b in
    let a' : load * (over * 2 ^ 64) ≤ load * (rate * below + below) = mul-le-mul_left load high in
    let d : load * below ≤ 2 ^ 64 * below = mul-le-mul_right below small in
    grind (arith, a', b', d, some, mul_assoc load rate below)

-- the exponent as a quotient
pub exponent_is : (s : Setting) (cell : Cell) (load below : ℕ) → below ≡ cell.cap * s.ref_load → 1 ≤ below → exponent s cell load ≡ load * factor_of s / below
exponent_is s cell load below is some = capacity (cell.cap == 0) refl
  where
    no_load : load * 0 / below ≡ 0
    no_load = ap (λ (n : ℕ). n / below) (omega arith) ∙ zero-div below

    setting : (b : Bool) → (if b then 0 else load * s.ref_cap * s.step / (cell.cap * s.ref_load)) ≡ load * (if b then 0 else s.ref_cap * s.step) / below
    setting true = sym no_load
    setting false = λ i. mul_assoc load s.ref_cap s.step i / sym is i

    capacity : (b : Bool) → (cell.cap == 0) ≡ b → (if b then 0 else (if s.first then 0 else load * s.ref_cap * s.step / (cell.cap * s.ref_load))) ≡ load * factor_of s / below
    capacity true e = absurd (let z : cell.cap ≡ 0 = grind (arith, nat_tests) in let n : below ≡ 0 * s.ref_load = is ∙ ap (λ (x : ℕ). x * s.ref_load) z in omega arith)
    capacity false e = setting s.first
