use Rattle.std.proofs.Common.{◌≡◌, ◌<◌, ℕ, get_or}
use Rattle.fixed_exp.specs.Kept.{cell_at, length_from}
use Rattle.fixed_exp.proofs.powers.Powers.put_near_lengths.Given as goal

abbrev pub invariant-loop-i : goal.invariant-loop-i
invariant-loop-i l = record {
  done : (k : ℕ) → k < l.i → get_or l.into k 0 ≡ length_from l.top l.rated.least (cell_at l.rated.cells.now k) (get_or l.kept k 0);
}
