use Rattle.std.proofs.Common.{◌≡◌, length}
use Rattle.std.specs.Prelude.{All}
use Rattle.flow_model.specs.Network.{IsCell}
use Rattle.solve_tests.proofs.ring.ring_cells.Given as goal

abbrev pub invariant-loop-i : goal.invariant-loop-i
invariant-loop-i l = record { count : length l.cells.items ≡ l.i; fit : All (IsCell l.nodes) l.cells.items }
