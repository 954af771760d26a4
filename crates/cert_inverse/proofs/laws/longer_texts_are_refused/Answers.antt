use Rattle.cert_inverse.proofs.Fronts.{longer}
use Rattle.cert_inverse.proofs.laws.longer_texts_are_refused.Goals as goal

pub returns : goal.returns
returns c = longer
