use Rattle.cut_bound.proofs.Making.{small-more, values-more}
use Rattle.cut_bound.proofs.made.side_values.Goals as goal

pub loop-on_side-preserved : goal.loop-on_side-preserved
loop-on_side-preserved c = record {
  small = small-more c.loop-on_side.values.items c.push.new.self.items c.potential.result c.in_ok-push.ensures.items c.loop-on_side.invariant.small c.potential.ensures.within;
  value = values-more c.args.both c.args.side.now c.args.source c.loop-on_side.on_side-index c.potential.result _ _ c.loop-on_side.values.items c.push.new.self.items c.requires c.loop-on_side-test.true c.potential.ensures.value c.loop-on_side.invariant.value c.in_ok-push.ensures.items;
}
