use Rattle.solver_run.proofs.Carried.{run-loads}
use Rattle.solver_run.proofs.laws.rows_load_what_phases_load.Goals as goal

pub returns : goal.returns
returns c = λ net o s n r. run-loads net o s n r
