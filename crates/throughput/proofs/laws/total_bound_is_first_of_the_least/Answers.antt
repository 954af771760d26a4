use Rattle.throughput.proofs.PartValid.{kept-first}
use Rattle.throughput.proofs.laws.total_bound_is_first_of_the_least.Goals as goal

pub returns : goal.returns
returns c = λ net o p n r. kept-first net o p n r
