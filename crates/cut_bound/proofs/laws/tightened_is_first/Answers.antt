use Rattle.cut_bound.proofs.Tightening.{tightened-first}
use Rattle.cut_bound.proofs.laws.tightened_is_first.Goals as goal

pub returns : goal.returns
returns c = tightened-first
