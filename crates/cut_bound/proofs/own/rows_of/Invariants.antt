use Rattle.std.proofs.Common.{◌≡◌, map, take}
use Rattle.std.specs.Prelude.{All}
use Rattle.cut_bound.specs.Candidates.{rows_in}
use Rattle.cut_bound.specs.Search.{row_at, seen, IsRowPlace}
use Rattle.cut_bound.proofs.own.rows_of.Given as goal

abbrev pub invariant-loop-dual : goal.invariant-loop-dual
invariant-loop-dual l = record {
  rows : map (row_at (seen l.own)) l.rows.items ≡ rows_in (take l.dual (seen l.own));
  places : All (IsRowPlace (seen l.own)) l.rows.items;
}
