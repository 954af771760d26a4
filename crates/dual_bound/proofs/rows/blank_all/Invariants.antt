use Rattle.std.proofs.Common.{◌≡◌, ℕ, ◌<◌, ◌≤◌, slice_index_or}
use Rattle.dual_bound.specs.declared.rows.Row.{Row}
use Rattle.dual_bound.specs.Rows.{IsMadeBlank}
use Rattle.dual_bound.proofs.rows.blank_all.Given as goal

abbrev pub invariant-loop-row : goal.invariant-loop-row
invariant-loop-row l = record {
  done : (k : ℕ) (d : Row) → k < l.row-index → IsMadeBlank (slice_index_or l.initial.rows k d) (slice_index_or l.rows k d);
  rest : (k : ℕ) (d : Row) → l.row-index ≤ k → slice_index_or l.rows k d ≡ slice_index_or l.initial.rows k d;
}
