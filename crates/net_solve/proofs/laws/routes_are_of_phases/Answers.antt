use Rattle.net_solve.proofs.Entries.{run-routes}
use Rattle.net_solve.proofs.laws.routes_are_of_phases.Goals as goal

pub returns : goal.returns
returns c = λ net o s solved. run-routes net o s solved.history
