use Rattle.whatif.proofs.Lines.{show_wrote}
use Rattle.whatif.specs.Planned.{evaluation_of}
use Rattle.whatif.proofs.run.take_step.Goals as goal

pub returns-in-Show-clause-wrote : goal.returns-in-Show-clause-wrote
returns-in-Show-clause-wrote g c = show_wrote c.args.mode _ _ c.write_bounds.result c.args.plan.now c.args.step (evaluation_of c.shown.result) c.in-Show.is c.shown.ensures.value c.write_bounds.ensures
