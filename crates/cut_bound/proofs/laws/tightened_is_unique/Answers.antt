use Rattle.cut_bound.proofs.Unique.{tightened-one}
use Rattle.cut_bound.proofs.laws.tightened_is_unique.Goals as goal

pub returns : goal.returns
returns c = tightened-one
