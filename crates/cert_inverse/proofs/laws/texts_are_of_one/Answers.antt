use Rattle.cert_inverse.proofs.Exactly.{of_one, of_any}
use Rattle.cert_inverse.proofs.laws.texts_are_of_one.Goals as goal

pub returns : goal.returns
returns c = record { in_form = of_one; in_any = of_any }
