use Rattle.solver_run.proofs.Duals.{bound-shows, cut-shows}
use Rattle.solver_run.proofs.laws.duals_show_their_bounds.Goals as goal

pub returns : goal.returns
returns c = record { bound = λ net lengths dual n long far d. bound-shows net lengths dual n long far d; cut = λ net dual n cut d. cut-shows net dual n cut d }
