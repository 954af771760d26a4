use Rattle.std.proofs.Common.{◌≡◌, ℕ, ◌*◌, List, length, ap, subst, ◌∙◌, arith}
use Rattle.flow_model.specs.declared.net.Commodity.{Commodity}
use Rattle.flow_model.specs.declared.setting.Setting.{Setting}
use Rattle.throughput.specs.Loaded.{HasTurned}
use Rattle.throughput.proofs.Phasing.{AreTurned, amounts-left, turned-more, phase-done}
use Rattle.throughput.proofs.phases.phase.Goals as goal

pub loop-k-preserved : goal.loop-k-preserved
loop-k-preserved c =
    let on = c.args.on.now in
    let net = on.net.now in
    let gates = on.gates.now in
    let k = c.loop-k.k in
    let inv = c.loop-k.invariant in
    let most = 2 * c.args.least in
    let has : HasTurned net gates c.args.setting most k c.loop-k.loaded c.turn.new.loaded =
    subst (λ (s : Setting). HasTurned net gates s most k c.loop-k.loaded c.turn.new.loaded) inv.setting c.in_ok-turn.ensures.turned in
    record {
      turned = λ rows is. turned-more net gates c.args.setting most k rows c.loop-k.loaded c.turn.new.loaded (inv.turned rows is) has;
      has = (_, has.rows inv.has.0 inv.has.1);
      follow = c.in_ok-turn.ensures.follow;
      setting = c.turn.ensures.setting ∙ inv.setting;
      nodes = c.turn.ensures.nodes ∙ inv.nodes;
      total = omega (arith, inv.total, c.in_ok-turn.ensures.total, amounts-left net.commodities k (omega (arith, ap (λ (xs : List Commodity). length xs) c.commodities.ensures.value)));
      few = omega (arith, inv.few, c.turn.ensures.few);
    }

pub returns-clause-phase : goal.returns-clause-phase
returns-clause-phase c =
    let on = c.args.on.now in
    let net = on.net.now in
    let gates = on.gates.now in
    let inv = c.loop-k.invariant in
    let all : c.loop-k.k ≡ length net.commodities = omega (arith, ap (λ (xs : List Commodity). length xs) c.commodities.ensures.value) in
    phase-done net gates c.args.setting c.args.least c.args.loaded.now c.loop-k.loaded c.requires.least
    (λ rows is. subst (λ (n : ℕ). AreTurned net gates c.args.setting (2 * c.args.least) n rows c.loop-k.loaded) all (inv.turned rows is))
