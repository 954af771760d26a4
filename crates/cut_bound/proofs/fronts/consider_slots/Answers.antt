use Rattle.cut_bound.proofs.Sharing.{considered-more}
use Rattle.cut_bound.proofs.fronts.consider_slots.Goals as goal

pub loop-slot-preserved : goal.loop-slot-preserved
loop-slot-preserved c =
    considered-more c.args.slots.now c.loop-slot.slot-index c.in-Some.least _ c.args.best.now c.loop-slot.best c.consider_some.new.best c.loop-slot-test.true c.in-Some.is c.consider_some.ensures c.loop-slot.invariant
