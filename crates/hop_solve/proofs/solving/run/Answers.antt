use Rattle.std.proofs.Common.{◌∙◌, [], subst}
use Rattle.flow_model.specs.declared.setting.Setting.{Setting}
use Rattle.hop_solve.specs.Run.{IsHopPhase}
use Rattle.hop_solve.proofs.solving.run.Goals as goal

pub first-requires-clause-phase : goal.first-requires-clause-phase
first-requires-clause-phase c =
    let p = c.in_ok-phase.ensures.phase c.if-not-branch.false [] c.in_ok-routed.ensures.nothing in (
      p.turns,
      subst (λ (s : Setting). IsHopPhase c.args.on.now.net.now c.args.on.now.limits.now s [] p.turns) (c.in_ok-routed.ensures.setting ∙ c.setting_at_first.ensures) p.phase,
      p.routed,
    )
