use Rattle.std.proofs.Common.{◌≡◌, ◌<◌, [], length, take, sym, ap, ◌∙◌, arith}
use Rattle.std.specs.Option.{option_map}
use Rattle.std.proofs.lemmas.List.{length-set}
use Rattle.cert_lines.specs.Forms.{words_in}
use Rattle.cert_lines.proofs.CellSteps.{split_is}
use Rattle.cert_lines.proofs.ValueSteps.{value_on, value_fails, values_end, small_on}
use Rattle.cert_lines.proofs.potentials.potentials_of.Goals as goal

pub returns-in-None-clause-exact : goal.returns-in-None-clause-exact
returns-in-None-clause-exact c =
    let e : words_in (option_map (λ w. w.now) c.values.left) ≡ [] = ap (λ o. words_in (option_map (λ w. w.now) o)) c.in-None.is in
    values_end c.values.values c.values.count _ _ e (omega (arith, ap length e, c.values.invariant.room)) c.values.invariant.so_far

pub returns-in-Err-clause-exact : goal.returns-in-Err-clause-exact
returns-in-Err-clause-exact c =
    let words = split_is (λ w. w.now) c.in-Some.line.now c.split_word.result.0.now c.split_word.result.1 c.split_word.ensures.words in
    let e = ap (λ o. words_in (option_map (λ w. w.now) o)) c.in-Some.is ∙ words in
    value_fails (take c.values.count c.values.values) _ _ c.split_word.result.0.now c.in-Err.kind _ e (sym c.in-Err.ensures.exact) c.values.invariant.so_far

pub values-preserved : goal.values-preserved
values-preserved c =
    let words = split_is (λ w. w.now) c.in-Some.line.now c.split_word.result.0.now c.split_word.result.1 c.split_word.ensures.words in
    let e = ap (λ o. words_in (option_map (λ w. w.now) o)) c.in-Some.is ∙ words in
    let lt : c.values.count < length c.values.values = omega (arith, ap length e, c.values.invariant.room) in
    record {
      so_far = value_on c.values.values c.values.count _ _ c.split_word.result.0.now c.in-Ok.value _ lt e (sym c.in-Ok.ensures.exact) c.values.invariant.so_far;
      room = rw length-set (omega (arith, ap length e, c.values.invariant.room));
      small = small_on c.values.values c.values.count c.in-Ok.value lt c.in-Ok.ensures.within c.values.invariant.small;
    }
