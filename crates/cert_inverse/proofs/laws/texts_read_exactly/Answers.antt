use Rattle.cert_inverse.proofs.Exactly.{exactly}
use Rattle.cert_inverse.proofs.laws.texts_read_exactly.Goals as goal

pub returns : goal.returns
returns c = exactly
