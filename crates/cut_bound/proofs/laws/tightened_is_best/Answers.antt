use Rattle.cut_bound.proofs.Tightening.{tightened-best}
use Rattle.cut_bound.proofs.laws.tightened_is_best.Goals as goal

pub returns : goal.returns
returns c = tightened-best
