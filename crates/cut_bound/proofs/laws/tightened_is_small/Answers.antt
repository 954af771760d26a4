use Rattle.cut_bound.proofs.Keeping.{tightened-small}
use Rattle.cut_bound.proofs.laws.tightened_is_small.Goals as goal

pub returns : goal.returns
returns c = tightened-small
