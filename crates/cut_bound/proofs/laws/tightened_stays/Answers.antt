use Rattle.cut_bound.proofs.Staying.{stays}
use Rattle.cut_bound.proofs.laws.tightened_stays.Goals as goal

pub returns : goal.returns
returns c = stays
