use Rattle.std.proofs.Common.{◌∙◌, arith}
use Rattle.sweep.proofs.Gathering.{swept_more}
use Rattle.sweep.proofs.slots.fill_slots.Goals as goal

pub loop-i-preserved : goal.loop-i-preserved
loop-i-preserved c = record {
  same = c.shown_without.ensures.same ∙ c.loop-i.invariant.same;
  done = swept_more c.args.mode c.args.plan.now c.loop-i.own c.args.first c.loop-i.slots c.loop-i.i c.shown_without.result (omega arith) c.loop-i.invariant.same c.shown_without.ensures.value c.loop-i.invariant.done;
}
