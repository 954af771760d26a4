use Rattle.std.proofs.Common.{◌≡◌, ℕ, ◌<◌, ◌++◌, None, length, slice_index_or}
use Rattle.claimed_calls.specs.Answers.{IsPut}
use Rattle.claimed_calls.proofs.slots.put.Given as goal

abbrev pub invariant-loop-number : goal.invariant-loop-number
invariant-loop-number g l = record {
  left : l.yielded ++ l.number-iterator.rest.items ≡ l.fn.entries.items;
  each : (i : ℕ) → i < length l.fn.slots → IsPut l.yielded i (slice_index_or l.fn.slots i None) (slice_index_or l.slots i None);
}
