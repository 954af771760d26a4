use Rattle.throughput_cmd.proofs.Checked.{checked}
use Rattle.throughput_cmd.proofs.laws.solved_parts_check.Goals as goal

pub returns : goal.returns
returns c = checked
