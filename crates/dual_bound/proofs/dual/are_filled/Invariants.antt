use Rattle.std.proofs.Common.{ℕ, ◌<◌, get_or}
use Rattle.std.specs.Prelude.{IsTrue}
use Rattle.dual_bound.specs.declared.rows.Row.{Row}
use Rattle.dual_bound.proofs.dual.are_filled.Given as goal

abbrev pub invariant-loop-row : goal.invariant-loop-row
invariant-loop-row l = (k : ℕ) (d : Row) → k < l.row-index → IsTrue (get_or l.rows k d).is_filled
