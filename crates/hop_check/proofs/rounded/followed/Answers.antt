use Rattle.std.proofs.Common.{arith}
use Rattle.std.proofs.lemmas.Str.Parse.{digit_at}
use Rattle.hop_check.proofs.Capped.{followed-more}
use Rattle.hop_check.proofs.rounded.followed.Goals as goal

pub overflow_sub-digit : goal.overflow_sub-digit
overflow_sub-digit c = omega (arith, digit_at c.args.digits.now c.loop-digit.digit-index c.requires.digits c.loop-digit-test.true)

pub loop-digit-preserved : goal.loop-digit-preserved
loop-digit-preserved c = followed-more c.capped-n.result c.loop-digit.n c.args.start c.loop-digit.digit-index c.args.digits.now c.requires.digits c.loop-digit-test.true c.loop-digit.invariant c.capped-n.ensures
