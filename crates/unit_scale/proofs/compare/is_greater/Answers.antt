use Rattle.std.proofs.Common.{◌-◌, ◌∙◌, sym, arith}
use Rattle.sndlib_grammar.specs.Views.{number_view}
use Rattle.unit_scale.specs.Largest.{amount_of}
use Rattle.unit_scale.proofs.Greatest.{below_count, digit_of, digits_tell, digits_same}
use Rattle.unit_scale.proofs.compare.is_greater.Goals as goal

pub places-init : goal.places-init
places-init c =
    let a = below_count c.long_number-a.result (amount_of (number_view c.args.one.now)) c.max-place.result c.long_number-a.ensures.long c.long_number-a.ensures.digits (omega (arith, c.kept_digits.ensures, c.max-place.ensures)) in
    let b = below_count c.long_number-b.result (amount_of (number_view c.args.other.now)) c.max-place.result c.long_number-b.ensures.long c.long_number-b.ensures.digits (omega (arith, c.kept_digits-2.ensures, c.max-place.ensures)) in
    a ∙ sym b

pub returns-then-x-y : goal.returns-then-x-y
returns-then-x-y c =
    let p = c.places.place - 1 in
    let v = amount_of (number_view c.args.one.now) in
    let u = amount_of (number_view c.args.other.now) in
    digits_tell v u c.places.place p c.digit_at-x.result c.digit_at-y.result (omega (arith, c.places-test.true)) c.places.invariant
    (c.digit_at-x.ensures ∙ digit_of c.long_number-a.result v p c.long_number-a.ensures.long) (c.digit_at-y.ensures ∙ digit_of c.long_number-b.result u p c.long_number-b.ensures.long) c.if-x-y.true

pub places-preserved : goal.places-preserved
places-preserved c =
    let p = c.places.place - 1 in
    let v = amount_of (number_view c.args.one.now) in
    let u = amount_of (number_view c.args.other.now) in
    digits_same v u c.places.place p c.digit_at-x.result c.digit_at-y.result (omega (arith, c.places-test.true)) c.places.invariant
    (c.digit_at-x.ensures ∙ digit_of c.long_number-a.result v p c.long_number-a.ensures.long) (c.digit_at-y.ensures ∙ digit_of c.long_number-b.result u p c.long_number-b.ensures.long) c.if-x-y.false
