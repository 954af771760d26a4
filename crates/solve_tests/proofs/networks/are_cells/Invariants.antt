use Rattle.std.proofs.Common.{ℕ, ◌<◌, get_or}
use Rattle.flow_model.specs.declared.net.Cell.{Cell}
use Rattle.flow_model.specs.Network.{IsCell}
use Rattle.solve_tests.proofs.networks.are_cells.Given as goal

abbrev pub invariant-loop-cell : goal.invariant-loop-cell
invariant-loop-cell l = (k : ℕ) (d : Cell) → k < l.cell-index → IsCell l.nodes (get_or l.cells k d)
