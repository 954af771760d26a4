use Rattle.std.proofs.Common.{◌≡◌, ℕ, ◌+◌, ◌<◌, get_or}
use Rattle.std.specs.Slots.{slots_items}
use Rattle.load_table.specs.Places.{place}
use Rattle.load_table.proofs.loads.Loads.close_shared.Given as goal

abbrev pub invariant-loop-i : goal.invariant-loop-i
invariant-loop-i l = (k : ℕ) → k < l.i → get_or l.into k 0 ≡ get_or (slots_items l.closed.words) (place l.wide (k + 1)) 0
