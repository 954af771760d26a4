use Rattle.cli_laws.proofs.Tightening.{best_checks}
use Rattle.cli_laws.proofs.laws.tightened_runs_check.Goals as goal

pub returns : goal.returns
returns c = best_checks
