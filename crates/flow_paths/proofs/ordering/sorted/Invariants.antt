use Rattle.std.proofs.Common.{◌≡◌}
use Rattle.std.specs.Prelude.{All}
use Rattle.std.specs.List.{range_with_len}
use Rattle.flow_paths.specs.Sorted.{IsOrderedRow, numbers_of}
use Rattle.flow_paths.proofs.ordering.sorted.Given as goal

abbrev pub invariant-loop-row : goal.invariant-loop-row
invariant-loop-row l = record {
  all : All (IsOrderedRow l.paths) l.rows.items;
  numbered : numbers_of l.rows.items ≡ range_with_len 0 l.row;
}
