use Rattle.whatif.proofs.Sound.{are_bounds}
use Rattle.whatif.proofs.plan.Plan.shown.Goals as goal

pub returns-clause-sound : goal.returns-clause-sound
returns-clause-sound c = are_bounds c.args.self.now c.upper.ensures.planned
