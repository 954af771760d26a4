use Rattle.net_solve.proofs.Carried.{run-phases, routes-of-phases, run-carried}
use Rattle.net_solve.proofs.laws.carried_is_of_phases.Goals as goal

pub returns-clause-phases : goal.returns-clause-phases
returns-clause-phases c = λ net o s solved. run-phases net o s solved.history

pub returns-clause-routes : goal.returns-clause-routes
returns-clause-routes c = routes-of-phases

pub returns-clause-carried : goal.returns-clause-carried
returns-clause-carried c = run-carried
