use Rattle.throughput_cmd.proofs.Written.{written}
use Rattle.throughput_cmd.proofs.laws.parts_can_be_written.Goals as goal

pub returns : goal.returns
returns c = written
