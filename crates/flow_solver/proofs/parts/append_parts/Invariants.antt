use Rattle.std.proofs.Common.{◌≡◌, ◌++◌, length}
use Rattle.flow_solver.specs.Shares.{rows_in}
use Rattle.flow_solver.proofs.parts.append_parts.Given as goal

abbrev pub invariant-parts : goal.invariant-parts
invariant-parts g l = l.rows.items ++ rows_in l.parts.items ≡ l.fn.rows.items ++ rows_in l.fn.parts.items

abbrev pub decreases-parts : goal.decreases-parts
decreases-parts g l = length l.parts.items
