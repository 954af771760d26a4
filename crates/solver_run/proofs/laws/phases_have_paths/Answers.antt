use Rattle.solver_run.proofs.Paths.{phase-paths}
use Rattle.solver_run.proofs.laws.phases_have_paths.Goals as goal

pub returns : goal.returns
returns c = λ net setting base loads entries n p. phase-paths net setting base loads entries n p
