-- A run that goes on by one phase or several.
use Rattle.std.specs.Prelude.{◌<◌, ◌≤◌}
use Rattle.flow_model.specs.Network.{Network}
use Rattle.flow_model.specs.Least.{HasNoCut}
use Rattle.solver_run.specs.declared.options.SolveOptions.{SolveOptions}
use Rattle.solver_run.specs.Options.{AreOptions}
use Rattle.flow_solver.specs.declared.reached.Reached.{Reached}
use Rattle.flow_solver.specs.Search.{phase_count}
use Rattle.flow_solver.specs.Reached.{IsReached, IsMet}

-- no cut, and the gap is open yet, with phases left in the budget
pub record CanGoOn (net : Network) (o : SolveOptions) (r : Reached) : Type 0 where
  pub no_cut : HasNoCut net
  pub options : AreOptions net o
  pub reached : IsReached net o r
  pub unmet : ¬ (IsMet net o r)
  pub budget : phase_count r.search < o.phases

-- more phases are reached, within the budget
pub record GoesOn (net : Network) (o : SolveOptions) (old new : Reached) : Type 0 where
  pub reached : IsReached net o new
  pub more : phase_count old.search < phase_count new.search
  pub budget : phase_count new.search ≤ o.phases
