use Rattle.cut_bound.proofs.Tightening.{tightened-routing}
use Rattle.cut_bound.proofs.laws.tightened_routing_is_first.Goals as goal

pub returns : goal.returns
returns c = tightened-routing
