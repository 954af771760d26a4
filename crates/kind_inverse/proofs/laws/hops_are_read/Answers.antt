use Rattle.kind_inverse.proofs.Exactly.{hops_exactly}
use Rattle.kind_inverse.proofs.laws.hops_are_read.Goals as goal

pub returns : goal.returns
returns c = hops_exactly
