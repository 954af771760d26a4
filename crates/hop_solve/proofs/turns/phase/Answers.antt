use Rattle.std.proofs.Common.{◌<◌, List, ◌++◌, length, ap, arith, ◌∙◌}
use Rattle.flow_model.specs.declared.net.Commodity.{Commodity}
use Rattle.hop_solve.proofs.Phases.{begun-more}
use Rattle.hop_solve.proofs.turns.phase.Goals as goal

pub loop-k-preserved : goal.loop-k-preserved
loop-k-preserved c =
    let net = c.args.on.now.net.now in
    let limits = c.args.on.now.limits.now in
    let inside : c.loop-k.k < length net.commodities = omega (arith, ap (λ (cs : List Commodity). length cs) c.commodities.ensures.value) in
    record {
      finder = c.turn.ensures.finder;
      turns = λ before is.
          let b = c.loop-k.invariant.turns before is in
          begun-more net limits before c.loop-k.k c.args.routed.now c.loop-k.routed c.turn.new.routed inside c.loop-k.invariant.setting b (c.in_ok-turn.ensures.turned c.if-not-branch.false (before ++ b.turns) b.routed);
      net = c.turn.ensures.net ∙ c.loop-k.invariant.net;
      setting = c.turn.ensures.setting ∙ c.loop-k.invariant.setting;
    }

pub returns-then-not-branch-clause-cut : goal.returns-then-not-branch-clause-cut
returns-then-not-branch-clause-cut c = λ _. (c.loop-k.k, omega (arith, ap (λ (cs : List Commodity). length cs) c.commodities.ensures.value), c.in_ok-turn.ensures.cut c.if-not-branch.true)
