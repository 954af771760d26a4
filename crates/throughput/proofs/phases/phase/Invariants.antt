use Rattle.std.proofs.Common.{◌≡◌, ◌+◌, ◌*◌, ◌≤◌, List, length, drop}
use Rattle.std.specs.List.{sum_by}
use Rattle.flow_model.specs.declared.net.Commodity.{Commodity}
use Rattle.flow_model.specs.Routing.{Row}
use Rattle.throughput.specs.Loaded.{Follow, HasLoaded, IsLoaded}
use Rattle.throughput.proofs.Phasing.{AreTurned}
use Rattle.throughput.proofs.phases.phase.Given as goal

abbrev pub invariant-loop-k : goal.invariant-loop-k
invariant-loop-k l = record {
  turned : (rows : List Row) → IsLoaded l.on.net.now rows l.fn.loaded → AreTurned l.on.net.now l.on.gates.now l.fn.setting (2 * l.least) l.k rows l.loaded;
  has : HasLoaded l.on.net.now l.loaded;
  follow : Follow l.on.net.now l.on.gates.now l.on.least l.loaded l.tops l.lengths;
  setting : l.tops.setting ≡ l.fn.setting;
  nodes : l.scratch.nodes ≡ l.fn.scratch.nodes;
  total : l.loaded.total + sum_by (λ (x : Commodity). x.amount) (drop l.k l.on.net.now.commodities) ≤ l.fn.loaded.total + sum_by (λ (x : Commodity). x.amount) l.on.net.now.commodities;
  few : length l.loaded.tally ≤ length l.fn.loaded.tally + l.k;
}
