use Rattle.std.proofs.Common.{ℕ, ◌<◌, None, length, slice_index_or}
use Rattle.claimed_calls.specs.Answers.{AreClaimed, IsSlot}
use Rattle.claimed_calls.proofs.calls.put_all.Given as goal

abbrev pub invariant-loop-entries : goal.invariant-loop-entries
invariant-loop-entries g l = record {
  left : (k : ℕ) (d : _) → k < length l.entries-iterator.rest.items → AreClaimed g.F.Fn l._work (slice_index_or l.entries-iterator.rest.items k d).items;
  filled : (i : ℕ) → i < length l.fn.slots → IsSlot g.F.Fn l._work i (slice_index_or l.slots i None);
}
