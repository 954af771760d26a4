use Rattle.kind_inverse.proofs.Fitting.{parts_fit}
use Rattle.kind_inverse.proofs.laws.parts_are_of_the_network.Goals as goal

pub returns : goal.returns
returns c = parts_fit
