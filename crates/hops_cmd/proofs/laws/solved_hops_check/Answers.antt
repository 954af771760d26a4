use Rattle.hops_cmd.proofs.Checked.{checked}
use Rattle.hops_cmd.proofs.laws.solved_hops_check.Goals as goal

pub returns : goal.returns
returns c = checked
