use Rattle.std.proofs.Common.{◌∙◌, ap}
use Rattle.std.proofs.lemmas.Result.{IfOk-weaker}
use Rattle.unit_scale.specs.declared.options.NetOptions.{NetOptions}
use Rattle.sweep_cmd.proofs.Worth.{plan_cells, plan_is, worth_is}
use Rattle.sweep_cmd.proofs.sweeping.bounds_without.Goals as goal

pub sweep_plan-requires-clause-cells : goal.sweep_plan-requires-clause-cells
sweep_plan-requires-clause-cells g c κs within =
    let is = plan_is c.args.net.now c.args.proof.now c.net.result.now c.in_ok-plan.plan c.net.ensures.value c.in_ok-plan.ensures in
    plan_cells c.args.rows.now c.args.net.now c.args.proof.now c.in_ok-plan.plan c.options.result.links c.links.result c.requires.names is (ap (λ (o : NetOptions). o.links) c.options.ensures) c.links.ensures.value

pub returns : goal.returns
returns g c =
    let is = plan_is c.args.net.now c.args.proof.now c.net.result.now c.in_ok-plan.plan c.net.ensures.value c.in_ok-plan.ensures in
    let worth = worth_is c.args.rows.now c.args.net.now c.args.proof.now c.in_ok-plan.plan c.options.result.links c.links.result is (ap (λ (o : NetOptions). o.links) c.options.ensures) c.links.ensures.value in
    IfOk-weaker c.sweep_plan.result _ _ (λ v shown. shown ∙ worth) c.sweep_plan.ensures
