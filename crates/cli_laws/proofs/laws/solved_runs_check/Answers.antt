use Rattle.cli_laws.proofs.Checking.{checks}
use Rattle.cli_laws.proofs.laws.solved_runs_check.Goals as goal

pub returns : goal.returns
returns c = λ files again solve check text first second before after solved checked. checks c.solves_check.ensures.alone files again solve check text first second before after solved checked
