use Rattle.std.proofs.Common.{take}
use Rattle.cut_bound.specs.Slots.{AreConsidered}
use Rattle.cut_bound.proofs.fronts.consider_slots.Given as goal

abbrev pub invariant-loop-slot : goal.invariant-loop-slot
invariant-loop-slot l = AreConsidered (take l.slot-index l.slots) l.initial.best l.best
