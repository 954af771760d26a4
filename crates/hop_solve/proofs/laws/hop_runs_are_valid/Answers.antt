use Rattle.hop_solve.proofs.Valid.{run-valid}
use Rattle.hop_solve.proofs.laws.hop_runs_are_valid.Goals as goal

pub returns : goal.returns
returns c = run-valid
