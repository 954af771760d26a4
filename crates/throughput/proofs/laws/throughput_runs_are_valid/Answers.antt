use Rattle.throughput.proofs.PartValid.{runs-are-valid}
use Rattle.throughput.proofs.laws.throughput_runs_are_valid.Goals as goal

pub returns : goal.returns
returns c = λ net o p n options run. runs-are-valid net o p n run
