use Rattle.cli_laws.proofs.KindChecks.{parts_check}
use Rattle.cli_laws.proofs.laws.throughput_runs_check.Goals as goal

pub returns : goal.returns
returns c = parts_check c.solved_parts_check.ensures
