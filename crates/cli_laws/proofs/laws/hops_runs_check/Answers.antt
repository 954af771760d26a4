use Rattle.cli_laws.proofs.KindChecks.{hops_check}
use Rattle.cli_laws.proofs.laws.hops_runs_check.Goals as goal

pub returns : goal.returns
returns c = hops_check c.solved_hops_check.ensures
