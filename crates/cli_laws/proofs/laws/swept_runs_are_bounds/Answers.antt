use Rattle.cli_laws.proofs.Sweeping.{sweeps}
use Rattle.cli_laws.proofs.laws.swept_runs_are_bounds.Goals as goal

pub returns : goal.returns
returns c = sweeps
