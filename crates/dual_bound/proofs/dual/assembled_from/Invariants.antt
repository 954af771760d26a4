use Rattle.std.proofs.Common.{◌≡◌, ℕ, ◌<◌, ◌≤◌, slice_index_or, take}
use Rattle.dual_bound.specs.declared.rows.Row.{Row}
use Rattle.dual_bound.specs.Rows.{HasGiven, dual_of}
use Rattle.dual_bound.proofs.dual.assembled_from.Given as goal

abbrev pub invariant-loop-row : goal.invariant-loop-row
invariant-loop-row l = record {
  dual : l.dual ≡ dual_of l.lengths (take l.row-index l.initial.rows);
  done : (k : ℕ) (d : Row) → k < l.row-index → HasGiven (slice_index_or l.initial.rows k d) (slice_index_or l.rows k d);
  rest : (k : ℕ) (d : Row) → l.row-index ≤ k → slice_index_or l.rows k d ≡ slice_index_or l.initial.rows k d;
}
