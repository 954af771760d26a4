use Rattle.cert_inverse.proofs.Fronts.{fronts}
use Rattle.cert_inverse.proofs.laws.fronts_are_refused.Goals as goal

pub returns : goal.returns
returns c = fronts
