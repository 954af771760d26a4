use Rattle.cli_laws.proofs.Batching.{batch_checks}
use Rattle.cli_laws.proofs.laws.batch_runs_check.Goals as goal

pub returns : goal.returns
returns c = batch_checks c.solved_is_judged_valid.ensures.alone
