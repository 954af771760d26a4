use Rattle.sweep.proofs.Closing.{closed_bounded}
use Rattle.sweep.proofs.laws.closed_is_bounded.Goals as goal

pub returns : goal.returns
returns c = closed_bounded
