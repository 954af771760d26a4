use Rattle.std.proofs.Common.{◌≡◌, ℕ, ◌<◌, ◌≤◌, slice_index_or}
use Rattle.dual_bound.specs.declared.rows.Row.{Row}
use Rattle.dual_bound.specs.Rows.{IsFilledWith}
use Rattle.dual_bound.specs.Bounds.{IsCutPotential}
use Rattle.dual_bound.proofs.rows.mark_all.Given as goal

abbrev pub invariant-loop-row : goal.invariant-loop-row
invariant-loop-row l = record {
  sources : (k : ℕ) (d : Row) → k < l.row-index → (slice_index_or l.rows k d).source ≡ (slice_index_or l.initial.rows k d).source;
  targets : (k : ℕ) (d : Row) → k < l.row-index → (slice_index_or l.rows k d).targets ≡ (slice_index_or l.initial.rows k d).targets;
  marks : (k : ℕ) (d : Row) → k < l.row-index → IsFilledWith l.graph.nodes (IsCutPotential l.graph.cells) (slice_index_or l.rows k d);
  rest : (k : ℕ) (d : Row) → l.row-index ≤ k → slice_index_or l.rows k d ≡ slice_index_or l.initial.rows k d;
}
