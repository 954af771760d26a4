use Rattle.std.proofs.Common.{◌≡◌, ℕ, ◌<◌, Some}
use Rattle.std.specs.Prelude.{slice_get}
use Rattle.flow_model.specs.declared.net.Commodity.{Commodity}
use Rattle.flow_model.specs.Least.{IsJoined}
use Rattle.dijkstra_paths.specs.Reach.{AreRows}
use Rattle.dijkstra_paths.proofs.graph.Graph.first_cut.Given as goal

abbrev pub invariant-loop-k : goal.invariant-loop-k
invariant-loop-k l = record {
  rows : AreRows l.self l.rows.items;
  joined : (j : ℕ) (commodity : Commodity) → j < l.k → slice_get l.net.commodities j ≡ Some commodity → IsJoined l.net.cells commodity.from commodity.to;
}
