use Rattle.solver_run.proofs.Short.{least-short}
use Rattle.solver_run.proofs.laws.least_walks_are_short.Goals as goal

pub returns : goal.returns
returns c = λ net lengths u v walk n long l least. least-short net lengths u v walk n long.low l least
