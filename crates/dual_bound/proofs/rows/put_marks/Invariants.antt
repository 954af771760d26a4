use Rattle.std.proofs.Common.{◌≡◌, ℕ, ◌<◌, get_or, cond}
use Rattle.dual_bound.specs.Rows.{mark_at}
use Rattle.dual_bound.proofs.rows.put_marks.Given as goal

abbrev pub invariant-loop-v : goal.invariant-loop-v
invariant-loop-v l = (k : ℕ) → k < l.v → get_or l.values k 0 ≡ cond (mark_at l.reached k) 0 1
