use Rattle.flow_model.proofs.Duality.{duality_of_rows}
use Rattle.flow_model.proofs.laws.lengths_bound_their_routings.Goals as goal

pub returns : goal.returns
returns c = λ net lengths distances rows a q len below feasible. duality_of_rows net rows a q lengths distances len below feasible
