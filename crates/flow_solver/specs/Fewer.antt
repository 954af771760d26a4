-- Options with fewer workers.
use Rattle.std.specs.Prelude.{◌≡◌, ◌≤◌}
use Rattle.solver_run.specs.declared.options.SolveOptions.{SolveOptions}

-- the second options are the first, with as many workers or fewer, but with some
pub record IsWithFewer (o fewer : SolveOptions) : Type 0 where
  pub gap : fewer.gap ≡ o.gap
  pub phases : fewer.phases ≡ o.phases
  pub some : 1 ≤ fewer.workers
  pub workers : fewer.workers ≤ o.workers
  pub step : fewer.step ≡ o.step
