use Rattle.claimed_calls.specs.Jobs.{Waits}
use Rattle.claimed_calls.proofs.Jobbing.{of_first, of_first_or_rest, of_rest}
use Rattle.std.proofs.Common.{None, refl}
use Rattle.claimed_calls.proofs.crew.+work_from.Goals as goal

pub work_from-hand_and_lead-requires-clause-job : goal.work_from-hand_and_lead-requires-clause-job
work_from-hand_and_lead-requires-clause-job g t c κs within =
    let cut = c.in-Some-split_first_mut.ensures.cases in
    of_first (Waits g.J.Job.asks) c.args.jobs.now c.in-Some-split_first_mut.job.now c.in-Some-split_first_mut.rest.now cut.0 c.requires.jobs

pub work_from-hand_and_lead-requires-clause-rest : goal.work_from-hand_and_lead-requires-clause-rest
work_from-hand_and_lead-requires-clause-rest g t c κs within =
    let cut = c.in-Some-split_first_mut.ensures.cases in
    of_rest (Waits g.J.Job.asks) c.args.jobs.now c.in-Some-split_first_mut.job.now c.in-Some-split_first_mut.rest.now cut.0 cut.1 c.requires.jobs

pub work_from-returns-in-Some-split_first_mut-clause-lost : goal.work_from-returns-in-Some-split_first_mut-clause-lost
work_from-returns-in-Some-split_first_mut-clause-lost g c f = λ no. of_first_or_rest _ f.hand_and_lead.new.job f.hand_and_lead.new.rest None refl (f.hand_and_lead.ensures.lost no)
