use Rattle.solver_run.proofs.Solved.{run-solved}
use Rattle.solver_run.proofs.laws.runs_are_solved.Goals as goal

pub returns : goal.returns
returns c = λ net o s n options run printed low high. run-solved net o s n options run printed low high
