use Rattle.cli_laws.proofs.Tightening.{best_stays}
use Rattle.cli_laws.proofs.laws.tightened_runs_stay.Goals as goal

pub returns : goal.returns
returns c = best_stays
