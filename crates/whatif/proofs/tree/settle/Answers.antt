use Rattle.std.proofs.Common.{◌∙◌, arith, ◌<◌, ◌-◌}
use Rattle.whatif.proofs.Trees.{settle_won, leaves_kept, count_kept}
use Rattle.whatif.proofs.tree.settle.Goals as goal

pub loop-k-preserved : goal.loop-k-preserved
loop-k-preserved c =
    let old = c.loop-k.nodes in
    let new = c.play.new.nodes in
    let k = c.loop-k.k in
    let leaves = c.args.leaves in
    let lt : k < leaves = omega arith in
    record {
      count = count_kept old new (leaves - k) c.play.ensures.played ∙ c.loop-k.invariant.count;
      ratios = c.play.ensures.ratios;
      leaves_are = leaves_kept old new leaves (leaves - k) (omega arith) c.play.ensures.played ∙ c.loop-k.invariant.leaves_are;
      won = settle_won leaves k old new (omega arith) lt c.play.ensures.played c.loop-k.invariant.won;
    }
