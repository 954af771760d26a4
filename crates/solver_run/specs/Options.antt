-- The options of a solve.
use Rattle.std.specs.Prelude.{◌*◌, ◌≤◌, length}
use Rattle.mcf_limits.specs.declared.TheConstants.{MAX_GAP, MAX_PHASES, MAX_STEP, MAX_WORK, MAX_WORKERS}
use Rattle.flow_model.specs.Network.{Network}
use Rattle.solver_run.specs.declared.options.SolveOptions.{SolveOptions}

-- the options are within the limits, and so are the phases of all commodities
pub record AreOptions (net : Network) (o : SolveOptions) : Type 0 where
  pub gap : o.gap ≤ MAX_GAP
  pub some_phase : 1 ≤ o.phases
  pub phases : o.phases ≤ MAX_PHASES
  pub some_worker : 1 ≤ o.workers
  pub workers : o.workers ≤ MAX_WORKERS
  pub some_step : 1 ≤ o.step
  pub step : o.step ≤ MAX_STEP
  pub work : length net.commodities * o.phases ≤ MAX_WORK
