use Rattle.std.proofs.Common.{ℕ, ◌<◌, get_or}
use Rattle.flow_model.specs.declared.net.Commodity.{Commodity}
use Rattle.flow_model.specs.Network.{IsCommodity}
use Rattle.solve_tests.proofs.networks.are_commodities.Given as goal

abbrev pub invariant-loop-commodity : goal.invariant-loop-commodity
invariant-loop-commodity l = (k : ℕ) (d : Commodity) → k < l.commodity-index → IsCommodity l.nodes (get_or l.commodities k d)
