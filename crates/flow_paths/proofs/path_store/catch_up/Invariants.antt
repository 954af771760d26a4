use Rattle.std.proofs.Common.{◌≡◌, length}
use Rattle.flow_paths.specs.KeyIndex.{IsIndexOf}
use Rattle.flow_paths.proofs.path_store.catch_up.Given as goal

abbrev pub invariant-loop-row : goal.invariant-loop-row
invariant-loop-row l = record {
  at : length l.index ≡ l.row;
  part : IsIndexOf l.index l.rows;
}
