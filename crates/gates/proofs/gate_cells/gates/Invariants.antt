use Rattle.mcf_limits.specs.declared.TheConstants.{MAX_UNITS}
use Rattle.std.proofs.Common.{◌≡◌, ℕ, ◌<◌, ◌≤◌, All, Some, length, get_or}
use Rattle.std.specs.Prelude.{slice_get}
use Rattle.flow_model.specs.declared.net.Cell.{Cell}
use Rattle.flow_model.specs.declared.net.Commodity.{Commodity}
use Rattle.dijkstra_paths.specs.Reach.{AreRows}
use Rattle.gates.specs.Gating.{IsGate}
use Rattle.gates.proofs.gate_cells.gates.Given as goal

abbrev pub invariant-loop-commodity : goal.invariant-loop-commodity
invariant-loop-commodity l = record {
  rows : AreRows l.net l.rows.items;
  count : length l.gates.items ≡ l.commodity-index;
  caps : All (λ cell. cell.cap ≤ MAX_UNITS) l.gates.items;
  each : (j : ℕ) (commodity : Commodity) (d : Cell) → j < l.commodity-index → slice_get l.net.commodities j ≡ Some commodity → IsGate l.net.cells commodity (get_or l.gates.items j d);
}
