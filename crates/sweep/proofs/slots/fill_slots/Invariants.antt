use Rattle.std.proofs.Common.{◌≡◌, ℕ, ◌+◌, ◌<◌, None, slice_index_or}
use Rattle.sweep.specs.Slots.{IsSwept}
use Rattle.sweep.proofs.slots.fill_slots.Given as goal

abbrev pub invariant-loop-i : goal.invariant-loop-i
invariant-loop-i l = record {
  same : l.own ≡ l.plan;
  done : (k : ℕ) → k < l.i → IsSwept l.mode l.plan (l.first + k) (slice_index_or l.slots k None);
}
