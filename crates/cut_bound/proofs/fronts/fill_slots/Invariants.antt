use Rattle.std.proofs.Common.{ℕ, ◌+◌, ◌<◌, None, slice_index_or}
use Rattle.cut_bound.specs.Search.{seen}
use Rattle.cut_bound.specs.Slots.{IsFilled}
use Rattle.cut_bound.proofs.fronts.fill_slots.Given as goal

abbrev pub invariant-loop-i : goal.invariant-loop-i
invariant-loop-i l = (k : ℕ) → k < l.i → IsFilled l.net.cells l.demands (seen l.own) l.rows (l.first + k) (slice_index_or l.slots k None)
