use Rattle.std.proofs.Common.{◌≡◌, ℕ, None, length, slice_index_or}
use Rattle.claimed_calls.proofs.slots.blank_slots.Given as goal

abbrev pub invariant-slots : goal.invariant-slots
invariant-slots g l = (length l.slots.items ≡ l.counter) × ((i : ℕ) → slice_index_or l.slots.items i None ≡ None)
