use Rattle.script.specs.declared.step.Step.TheVariants.{Edit}
use Rattle.whatif.proofs.Lines.{step_wrote, step_stops, stopped, after_more, step_of_cells}
use Rattle.whatif.proofs.run.take_steps.Goals as goal

pub take_step-requires : goal.take_step-requires
take_step-requires g c =
    step_of_cells c.args.mode c.args.plan.now c.loop-step.plan c.args.steps.now c.loop-step.step-index (Edit 0 0) c.loop-step-test.true c.loop-step.invariant.plan_is c.requires

pub returns-in-Err-clause-wrote : goal.returns-in-Err-clause-wrote
returns-in-Err-clause-wrote g c =
    step_stops c.args.mode _ _ _ c.in-Err.fault c.args.plan.now c.args.steps.now c.loop-step.step-index _ c.loop-step.plan c.loop-step-test.true c.loop-step.invariant.plan_is c.loop-step.invariant.wrote c.in-Err.ensures.wrote

pub returns-in-Err-clause-stopped : goal.returns-in-Err-clause-stopped
returns-in-Err-clause-stopped g c =
    stopped c.args.mode _ _ _ c.in-Err.fault c.args.plan.now c.args.steps.now c.loop-step.step-index _ c.loop-step.plan c.take_step.new.plan c.loop-step-test.true c.loop-step.invariant.plan_is c.in-Err.ensures.stop c.in-Err.ensures.plan c.loop-step.invariant.wrote c.in-Err.ensures.wrote

pub loop-step-preserved : goal.loop-step-preserved
loop-step-preserved g c = record {
  wrote = step_wrote c.args.mode _ _ _ c.args.plan.now c.args.steps.now c.loop-step.step-index _ c.loop-step.plan c.loop-step-test.true c.loop-step.invariant.plan_is c.loop-step.invariant.wrote c.in-Ok.ensures.wrote;
  plan_is = after_more c.args.mode c.args.plan.now c.args.steps.now c.loop-step.step-index _ c.loop-step.plan c.take_step.new.plan c.loop-step-test.true c.loop-step.invariant.plan_is c.in-Ok.ensures.plan;
}
