use Rattle.std.proofs.Common.{◌≡◌, ◌<◌, ℕ, get_or}
use Rattle.flow_model.specs.Lengths.{length_at}
use Rattle.fixed_exp.specs.Kept.{cell_at}
use Rattle.gates.proofs.lengths.put_lengths.Given as goal

abbrev pub invariant-loop-i : goal.invariant-loop-i
invariant-loop-i l = (k : ℕ) → k < l.i → get_or l.into k 0 ≡ length_at l.under.setting l.under.top l.under.least (cell_at l.cells k) (get_or l.loads k 0)
