use Rattle.std.proofs.Common.{◌∙◌, arith, ◌/◌, ◌*◌, ◌<◌}
use Rattle.whatif.proofs.Trees.{mend_won, leaves_kept, count_kept}
use Rattle.whatif.proofs.tree.mend.Goals as goal

pub up-preserved : goal.up-preserved
up-preserved c =
    let old = c.up.nodes in
    let new = c.play.new.nodes in
    let i = c.up.i in
    let leaves = c.args.leaves in
    let high : i < 2 * leaves = c.up.invariant.within in
    let low : 1 < i = omega arith in
    record {
      some = omega arith;
      within = omega arith;
      count = count_kept old new (i / 2) c.play.ensures.played ∙ c.up.invariant.count;
      ratios = c.play.ensures.ratios;
      leaves_are = leaves_kept old new leaves (i / 2) (omega arith) c.play.ensures.played ∙ c.up.invariant.leaves_are;
      won = mend_won leaves i old new low high c.play.ensures.played c.up.invariant.won;
    }
