use Rattle.cut_bound.proofs.Leasts.{least-first}
use Rattle.cut_bound.proofs.laws.least_is_first.Goals as goal

pub returns : goal.returns
returns c = least-first
