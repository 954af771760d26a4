use Rattle.std.proofs.Common.{◌+◌, ◌<◌, length, arith, rules}
use Rattle.cut_bound.proofs.Levelling.{ranks-more, within-more}
use Rattle.cut_bound.proofs.cuts.ranks_of.Goals as goal

pub loop-value-preserved : goal.loop-value-preserved
loop-value-preserved c =
    let below : c.rank_of.result < length c.args.levels.now + 1 = omega (arith, c.rank_of.ensures.within) in
    record {
      len = search rules;
      within = within-more (length c.args.levels.now + 1) c.loop-value.ranks.items c.push.new.self.items c.rank_of.result c.in_ok-push.ensures.items c.loop-value.invariant.within below;
      below = ranks-more c.args.levels.now c.args.values.now c.loop-value.ranks.items c.push.new.self.items c.loop-value.value-index c.rank_of.result _ c.loop-value-test.true c.in_ok-push.ensures.items c.loop-value.invariant.len c.rank_of.ensures.below c.loop-value.invariant.below;
    }
