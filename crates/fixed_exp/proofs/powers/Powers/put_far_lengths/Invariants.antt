use Rattle.std.proofs.Common.{◌≡◌, ◌<◌, ℕ, get_or}
use Rattle.flow_model.specs.Lengths.{length_at}
use Rattle.fixed_exp.specs.Kept.{cell_at}
use Rattle.fixed_exp.proofs.powers.Powers.put_far_lengths.Given as goal

abbrev pub invariant-loop-i : goal.invariant-loop-i
invariant-loop-i l = record {
  done : (k : ℕ) → k < l.i → get_or l.into k 0 ≡ length_at l.rated.scale.now.setting l.top l.rated.least (cell_at l.rated.cells.now k) (get_or l.loads k 0);
}
