use Rattle.cert_inverse.proofs.Headers.{one_form}
use Rattle.cert_inverse.proofs.laws.texts_are_of_one_form.Goals as goal

pub returns : goal.returns
returns c = one_form
