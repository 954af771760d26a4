use Rattle.std.proofs.Common.{◌≡◌, ◌<◌, ℕ, get_or, length}
use Rattle.flow_model.specs.Lengths.{length_at}
use Rattle.fixed_exp.specs.Changes.{IsNotIn}
use Rattle.fixed_exp.specs.Kept.{cell_at}
use Rattle.fixed_exp.proofs.powers.Powers.put_changed_lengths.Given as goal

abbrev pub invariant-loop-j : goal.invariant-loop-j
invariant-loop-j l = record {
  done : (k : ℕ) → k < length l.rated.cells.now → IsNotIn l.changed.count l.changed.places.now l.j k → get_or l.into k 0 ≡ length_at l.rated.scale.now.setting l.top l.rated.least (cell_at l.rated.cells.now k) (get_or l.loads k 0);
}
