use Rattle.hop_check.proofs.Capped.{raised-more}
use Rattle.hop_check.proofs.rounded.raised.Goals as goal

pub loop-preserved : goal.loop-preserved
loop-preserved c = raised-more c.capped-n.result c.loop.n c.args.start c.loop.counter c.loop.invariant c.capped-n.ensures
