use Rattle.std.proofs.Common.{◌≡◌, ◌++◌, All}
use Rattle.std.specs.Arc.{arc_value}
use Rattle.dual_bound.specs.Rows.{IsRoom}
use Rattle.flow_solver.specs.Shares.{IsShareOf, rows_in}
use Rattle.flow_solver.proofs.parts.parts_of.Given as goal

abbrev pub invariant-loop-i : goal.invariant-loop-i
invariant-loop-i g l = record {
  parts : All (IsShareOf l.graph (arc_value l.lengths).items) l.parts.items;
  rows : l.rows.items ++ rows_in l.parts.items ≡ l.fn.rows.items;
  room : All (IsRoom l.graph.nodes) l.rows.items;
}
