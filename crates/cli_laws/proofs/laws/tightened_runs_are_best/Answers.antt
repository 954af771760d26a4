use Rattle.cli_laws.proofs.Tightening.{are_best}
use Rattle.cli_laws.proofs.laws.tightened_runs_are_best.Goals as goal

pub returns : goal.returns
returns c = are_best
