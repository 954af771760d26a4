use Rattle.cert_inverse.proofs.Exactly.{reading}
use Rattle.cert_inverse.proofs.laws.readings_are_exact.Goals as goal

pub returns : goal.returns
returns c = reading
