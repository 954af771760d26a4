use Rattle.std.proofs.Common.{◌-◌, length, arith}
use Rattle.std.proofs.lemmas.Str.Parse.{digit_at}
use Rattle.unit_scale.proofs.Greatest.{in_fraction, in_whole, in_none}
use Rattle.unit_scale.proofs.compare.digit_from_right.Goals as goal

pub overflow_sub-result-then-place-fraction-2 : goal.overflow_sub-result-then-place-fraction-2
overflow_sub-result-then-place-fraction-2 c = omega (arith, digit_at c.args.fraction.now (length c.args.fraction.now - 1 - c.args.place) c.requires.fraction (omega arith))

pub returns-then-place-fraction : goal.returns-then-place-fraction
returns-then-place-fraction c = in_fraction c.args.whole.now c.args.fraction.now c.args.place c.requires.whole c.requires.fraction c.if-place-fraction.true

pub overflow_sub-result-then-left-whole-3 : goal.overflow_sub-result-then-left-whole-3
overflow_sub-result-then-left-whole-3 c = omega (arith, digit_at c.args.whole.now (length c.args.whole.now - 1 - (c.args.place - length c.args.fraction.now)) c.requires.whole (omega arith))

pub returns-then-left-whole : goal.returns-then-left-whole
returns-then-left-whole c = in_whole c.args.whole.now c.args.fraction.now c.args.place (c.args.place - length c.args.fraction.now) c.requires.whole c.requires.fraction (omega arith) c.if-left-whole.true

pub returns : goal.returns
returns c = in_none c.args.whole.now c.args.fraction.now c.args.place c.requires.whole c.requires.fraction (omega arith)
