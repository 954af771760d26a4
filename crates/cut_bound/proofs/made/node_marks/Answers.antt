use Rattle.cut_bound.specs.Sums.{node_side}
use Rattle.cut_bound.proofs.Making.{marks-more}
use Rattle.cut_bound.proofs.made.node_marks.Goals as goal

pub loop-v-preserved : goal.loop-v-preserved
loop-v-preserved c = marks-more (node_side c.args.into c.args.node) c.loop-v.v c.is_on_side.result c.loop-v.marks.items c.push.new.self.items c.is_on_side.ensures c.loop-v.invariant c.in_ok-push.ensures.items
