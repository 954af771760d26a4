use Rattle.flow_paths.specs.Certificate.{upper_of}
use Rattle.flow_paths.proofs.Least.{least-first}
use Rattle.solver_run.specs.Run.{no_dual}
use Rattle.solver_run.proofs.Solved.{run-keeps}
use Rattle.solver_run.proofs.laws.kept_bound_is_first_of_the_least.Goals as goal

pub returns : goal.returns
returns c = record { least = λ net duals some divide. least-first (upper_of net) no_dual duals some divide; run = λ net o s n r. run-keeps net o s n r }
