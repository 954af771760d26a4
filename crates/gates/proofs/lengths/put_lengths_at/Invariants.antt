use Rattle.std.proofs.Common.{◌≡◌, ◌<◌, ℕ, length, get_or}
use Rattle.flow_model.specs.Lengths.{length_at}
use Rattle.fixed_exp.specs.Kept.{cell_at}
use Rattle.fixed_exp.specs.Changes.{IsNotIn}
use Rattle.gates.proofs.lengths.put_lengths_at.Given as goal

abbrev pub invariant-loop-j : goal.invariant-loop-j
invariant-loop-j l = (k : ℕ) → k < length l.cells → IsNotIn (length l.places) l.places l.j k → get_or l.into k 0 ≡ length_at l.under.setting l.under.top l.under.least (cell_at l.cells k) (get_or l.loads k 0)
