use Rattle.hops_cmd.proofs.Written.{written}
use Rattle.hops_cmd.proofs.laws.hops_can_be_written.Goals as goal

pub returns : goal.returns
returns c = written
