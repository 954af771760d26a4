use Rattle.kind_inverse.proofs.Exactly.{parts_exactly}
use Rattle.kind_inverse.proofs.laws.parts_are_read.Goals as goal

pub returns : goal.returns
returns c = parts_exactly
