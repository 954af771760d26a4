use Rattle.std.proofs.Common.{◌≡◌, ◌<◌, ℕ, length, get_or}
use Rattle.fixed_exp.specs.Changes.{IsNotIn}
use Rattle.fixed_exp.proofs.changes.copy_at.Given as goal

abbrev pub invariant-loop-j : goal.invariant-loop-j
invariant-loop-j l = record {
  same : (k : ℕ) → k < length l.loads → IsNotIn (length l.places) l.places l.j k → get_or l.into k 0 ≡ get_or l.loads k 0;
}
