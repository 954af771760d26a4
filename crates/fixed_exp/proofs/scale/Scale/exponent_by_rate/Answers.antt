use Rattle.std.proofs.Common.{◌≡◌, ℕ, ◌+◌, ◌-◌, ◌*◌, ◌/◌, ◌^◌, ◌≤◌, arith, refl, sym, ap, ◌∙◌, subst}
use Rattle.std.proofs.Math.Nat.{mul-le-mul_left}
use mir.Val.{bool_byte}
use lib.Dec.{leb}
use Rattle.flow_model.specs.Lengths.{exponent}
use Rattle.fixed_exp.proofs.Guess.{rate_read, rate_low, rate_high, exponent_is, told_by_rest, byte_small}
use Rattle.fixed_exp.proofs.scale.Scale.exponent_by_rate.Goals as goal

pub overflow_mul-rest-2 : goal.overflow_mul-rest-2
overflow_mul-rest-2 c =
    let some : 1 ≤ c.args.rate.now.below = omega (arith, c.if-rate-eq0.false) in
    let r = rate_read c.args.self.now.setting c.args.cell.now c.args.rate.now c.args.self.now.over c.from.result c.from-2.result c.from-3.result c.requires.rate some c.args.self.now.over_is c.from.ensures c.from-2.ensures c.from-3.ensures in
    let low = rate_low c.from-load.result c.args.self.now.over c.from-3.result c.from.result c.from-2.result _ r refl in
    let most : c.from-load.result * c.args.self.now.over ≤ c.from-load.result * 2 ^ 64 = mul-le-mul_left c.from-load.result c.args.self.now.small in
    omega (arith, low, most, c.from-load.ensures, c.requires.load)

pub overflow_sub-rest : goal.overflow_sub-rest
overflow_sub-rest c =
    let some : 1 ≤ c.args.rate.now.below = omega (arith, c.if-rate-eq0.false) in
    let r = rate_read c.args.self.now.setting c.args.cell.now c.args.rate.now c.args.self.now.over c.from.result c.from-2.result c.from-3.result c.requires.rate some c.args.self.now.over_is c.from.ensures c.from-2.ensures c.from-3.ensures in
    rate_low c.from-load.result c.args.self.now.over c.from-3.result c.from.result c.from-2.result _ r refl

pub overflow_cast-rest : goal.overflow_cast-rest
overflow_cast-rest c =
    let some : 1 ≤ c.args.rate.now.below = omega (arith, c.if-rate-eq0.false) in
    let r = rate_read c.args.self.now.setting c.args.cell.now c.args.rate.now c.args.self.now.over c.from.result c.from-2.result c.from-3.result c.requires.rate some c.args.self.now.over_is c.from.ensures c.from-2.ensures c.from-3.ensures in
    let high = rate_high c.from-load.result c.args.self.now.over c.from-3.result c.from.result c.from-2.result _ r refl (omega (arith, c.from-3.ensures, some)) (omega (arith, c.from-load.ensures, c.requires.load)) in
    let small = (c.requires.rate some).small in
    omega (arith, high, small, c.from-3.ensures)

pub overflow_add-result : goal.overflow_add-result
overflow_add-result c =
    let some : 1 ≤ c.args.rate.now.below = omega (arith, c.if-rate-eq0.false) in
    let r = rate_read c.args.self.now.setting c.args.cell.now c.args.rate.now c.args.self.now.over c.from.result c.from-2.result c.from-3.result c.requires.rate some c.args.self.now.over_is c.from.ensures c.from-2.ensures c.from-3.ensures in
    let guess : ℕ = c.from-load.result * c.from.result + c.from-load.result * c.from-2.result / 2 ^ 64 in
    let low = rate_low c.from-load.result c.args.self.now.over c.from-3.result c.from.result c.from-2.result guess r refl in
    let wide : guess * 1 ≤ guess * c.from-3.result = mul-le-mul_left guess (omega (arith, c.from-3.ensures, some)) in
    let most : c.from-load.result * c.args.self.now.over ≤ c.from-load.result * 2 ^ 64 = mul-le-mul_left c.from-load.result c.args.self.now.small in
    let byte : c.from-4.result ≤ 1 = subst (λ (n : ℕ). n ≤ 1) (sym c.from-4.ensures) (byte_small _) in
    omega (arith, low, wide, most, byte, c.from-load.ensures, c.requires.load)

pub returns : goal.returns
returns c =
    let some : 1 ≤ c.args.rate.now.below = omega (arith, c.if-rate-eq0.false) in
    let s = c.args.self.now.setting in
    let r = rate_read s c.args.cell.now c.args.rate.now c.args.self.now.over c.from.result c.from-2.result c.from-3.result c.requires.rate some c.args.self.now.over_is c.from.ensures c.from-2.ensures c.from-3.ensures in
    let guess : ℕ = c.from-load.result * c.from.result + c.from-load.result * c.from-2.result / 2 ^ 64 in
    let above : ℕ = c.from-load.result * c.args.self.now.over in
    let low = rate_low c.from-load.result c.args.self.now.over c.from-3.result c.from.result c.from-2.result guess r refl in
    let high = rate_high c.from-load.result c.args.self.now.over c.from-3.result c.from.result c.from-2.result guess r refl (omega (arith, c.from-3.ensures, some)) (omega (arith, c.from-load.ensures, c.requires.load)) in
    let one : c.from-4.result ≡ bool_byte (leb c.from-3.result (above - guess * c.from-3.result)) = c.from-4.ensures ∙ (λ i. bool_byte (leb (sym c.from-3.ensures i) (above - guess * c.from-3.result))) in
    let is : above / c.from-3.result ≡ exponent s c.args.cell.now c.args.load =
    (λ i. c.from-load.ensures i * c.args.self.now.over_is i / c.from-3.ensures i) ∙ sym (exponent_is s c.args.cell.now c.args.load c.args.rate.now.below (c.requires.rate some).below some) in
    ap (λ (n : ℕ). guess + n) one ∙ (told_by_rest above c.from-3.result guess low high ∙ is)
