use Rattle.std.proofs.Common.{◌≡◌, ◌≤◌, drop, min}
use Rattle.flow_model.specs.Lengths.{least_capacity}
use Rattle.mcf_limits.specs.declared.TheConstants.{MAX_UNITS}
use Rattle.gates.proofs.lengths.least_of.Given as goal

abbrev pub invariant-loop-cell : goal.invariant-loop-cell
invariant-loop-cell l = record {
  least : min l.least (least_capacity (drop l.cell-index l.cells)) ≡ least_capacity l.cells;
  small : l.least ≤ MAX_UNITS;
}
