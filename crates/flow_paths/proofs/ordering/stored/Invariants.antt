use Rattle.std.proofs.Common.{◌≡◌, take}
use Rattle.std.specs.Prelude.{map}
use Rattle.flow_paths.specs.PathRows.{row_at}
use Rattle.flow_paths.proofs.ordering.stored.Given as goal

abbrev pub invariant-loop-row : goal.invariant-loop-row
invariant-loop-row l = l.stored ≡ map (row_at l.paths) (take l.row-index l.order)
