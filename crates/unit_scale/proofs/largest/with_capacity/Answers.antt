use Rattle.std.proofs.Common.{◌∙◌, ◌||◌, ap, arith, Bool}
use Rattle.sndlib_grammar.specs.Views.{number_view}
use Rattle.unit_scale.specs.Largest.{amount_of, best_amount}
use Rattle.unit_scale.specs.Sizes.{value}
use Rattle.unit_scale.proofs.Greatest.{word_facts, greater_is, greater_not}
use Rattle.unit_scale.proofs.largest.with_capacity.Goals as goal

pub returns-then-exceeds : goal.returns-then-exceeds
returns-then-exceeds c =
    let f = word_facts c.args.word.now c.in-Some.number c.in-Some-short_units.size c.in-Some.ensures.value c.in-Some-short_units.ensures c.in-Some.ensures.digits (omega (arith, c.in-Some.ensures.small)) in
    (f.fine, greater_is (best_amount c.args.best.number) (amount_of (number_view c.in-Some.number)) (value c.args.word.now) c.if-exceeds.ensures f.value_is, c.either-over.ensures ∙ ap (λ (b : Bool). c.args.best.over || b) f.over, (f.fit, f.size_is))

pub returns : goal.returns
returns c =
    let f = word_facts c.args.word.now c.in-Some.number c.in-Some-short_units.size c.in-Some.ensures.value c.in-Some-short_units.ensures c.in-Some.ensures.digits (omega (arith, c.in-Some.ensures.small)) in
    (f.fine, greater_not (best_amount c.args.best.number) (amount_of (number_view c.in-Some.number)) (value c.args.word.now) c.if-exceeds.ensures f.value_is, c.either-over.ensures ∙ ap (λ (b : Bool). c.args.best.over || b) f.over, c.requires)
