use Rattle.kind_inverse.proofs.Fitting.{hops_fit}
use Rattle.kind_inverse.proofs.laws.hops_are_of_the_network.Goals as goal

pub returns : goal.returns
returns c = hops_fit
