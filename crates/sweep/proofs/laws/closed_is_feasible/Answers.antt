use Rattle.sweep.proofs.Closing.{closed_feasible}
use Rattle.sweep.proofs.laws.closed_is_feasible.Goals as goal

pub returns : goal.returns
returns c = closed_feasible
