use Rattle.std.proofs.Common.{◌≡◌, ◌≤◌, ◌^◌, ◌*◌, ◌/◌, ◌+◌, ℕ, max, refl, arith, subst, sym, ap, ◌∙◌}
use Rattle.flow_model.specs.Powers.{weight_of}
use Rattle.fixed_exp.proofs.PowerTable.{weight_small}
use Rattle.fixed_exp.proofs.Guess.{guess_low, guess_high, guess_small, quotient_same, quotient_more, rate_small}
use Rattle.fixed_exp.proofs.powers.Powers.length_by_rate.Goals as goal
use Rattle.fixed_exp.proofs.powers.Powers.length_by_rate.Goals.{then-rest-cap, else-rest-cap}

small : (w' w drop : ℕ) → w ≡ w' → w' ≡ weight_of drop → w ≤ 2 ^ 40
small w' w drop e f = subst (λ (x : ℕ). x ≤ 2 ^ 40) (sym (e ∙ f)) (weight_small drop)

pub overflow_cast-guess : goal.overflow_cast-guess
overflow_cast-guess c =
    let s : c.from-weight.result ≤ 2 ^ 40 = small c.weight.result c.from-weight.result c.args.drop c.from-weight.ensures c.weight.ensures.value in
    let r : c.args.rate ≤ 2 ^ 52 = rate_small c.args.least c.args.cap c.args.rate c.requires.least c.requires.rate in
    omega (arith, guess_small c.from-weight.result c.from.result _ s refl, r, c.from.ensures)

pub overflow_sub-rest : goal.overflow_sub-rest
overflow_sub-rest c =
    let r : c.from.result ≡ 2 ^ 52 * c.from-2.result / c.from-4.result = rw (c.from.ensures, c.from-2.ensures, c.from-4.ensures) c.requires.rate in
    guess_low c.from-weight.result c.from-2.result c.from-4.result c.from.result c.from-3.result r c.from-3.ensures

pub overflow_cast-rest : goal.overflow_cast-rest
overflow_cast-rest c =
    let s : c.from-weight.result ≤ 2 ^ 40 = small c.weight.result c.from-weight.result c.args.drop c.from-weight.ensures c.weight.ensures.value in
    let r : c.from.result ≡ 2 ^ 52 * c.from-2.result / c.from-4.result = rw (c.from.ensures, c.from-2.ensures, c.from-4.ensures) c.requires.rate in
    let p : 1 ≤ c.from-4.result = omega (arith, c.from-4.ensures, c.requires.positive) in
    let high = guess_high c.from-weight.result c.from-2.result c.from-4.result c.from.result c.from-3.result s p r c.from-3.ensures in
    omega (arith, high, c.from-4.ensures, c.requires.cap)

pub overflow_add-length : goal.overflow_add-length
overflow_add-length c =
    let s : c.from-weight.result ≤ 2 ^ 40 = small c.weight.result c.from-weight.result c.args.drop c.from-weight.ensures c.weight.ensures.value in
    let r : c.args.rate ≤ 2 ^ 52 = rate_small c.args.least c.args.cap c.args.rate c.requires.least c.requires.rate in
    omega (arith, guess_small c.from-weight.result c.from.result _ s refl, r, c.from.ensures)

pub returns : goal.returns
returns c =
    let s : c.from-weight.result ≤ 2 ^ 40 = small c.weight.result c.from-weight.result c.args.drop c.from-weight.ensures c.weight.ensures.value in
    let r : c.from.result ≡ 2 ^ 52 * c.from-2.result / c.from-4.result = rw (c.from.ensures, c.from-2.ensures, c.from-4.ensures) c.requires.rate in
    let p : 1 ≤ c.from-4.result = omega (arith, c.from-4.ensures, c.requires.positive) in
    let above = c.from-weight.result * 4096 * c.from-2.result in
    let low = guess_low c.from-weight.result c.from-2.result c.from-4.result c.from.result c.from-3.result r c.from-3.ensures in
    let high = guess_high c.from-weight.result c.from-2.result c.from-4.result c.from.result c.from-3.result s p r c.from-3.ensures in
    let is : above / c.from-4.result ≡ c.if-rest-cap.length = elim c.if-rest-cap.branch [
      | then-rest-cap w ↦ quotient_more above c.from-4.result c.from-3.result high (omega (arith, w.if-rest-cap.true, c.from-4.ensures)) ∙ ap (λ (n : ℕ). n + 1) c.from-3.ensures ∙ sym w.length-is
      | else-rest-cap w ↦ quotient_same above c.from-4.result c.from-3.result low (omega (arith, w.if-rest-cap.false, c.from-4.ensures)) ∙ c.from-3.ensures ∙ sym w.length-is
    ] in
    let weight : c.from-weight.result ≡ weight_of c.args.drop = c.from-weight.ensures ∙ c.weight.ensures.value in
    let value : above / c.from-4.result ≡ weight_of c.args.drop * 4096 * c.args.least / c.args.cap = rw (weight, c.from-2.ensures, c.from-4.ensures) refl in
    subst (λ (n : ℕ). c.max.result ≡ max 1 n) (sym is ∙ value) (omega (arith, c.max.ensures))
