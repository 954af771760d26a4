use Rattle.std.proofs.Common.{◌≡◌, ◌++◌, map, take}
use Rattle.std.specs.Prelude.{All}
use Rattle.cut_bound.specs.Search.{own_at, row_at, seen, IsRowPlace}
use Rattle.cut_bound.proofs.own.push_rows.Given as goal

abbrev pub invariant-loop-row : goal.invariant-loop-row
invariant-loop-row l = record {
  rows : map (row_at (seen l.own)) l.rows.items ≡ map (row_at (seen l.own)) l.initial.rows.items ++ take l.row (own_at (seen l.own) l.dual).potentials;
  places : All (IsRowPlace (seen l.own)) l.initial.rows.items → All (IsRowPlace (seen l.own)) l.rows.items;
}
