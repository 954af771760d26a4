-- What is asked of the solves of a batch.
use Rattle.std.specs.Prelude.{◌≡◌, ℕ, ◌/◌, ◌≤◌, ◌==◌, List, min, Option, Some, None, IfSome, if◌then◌else◌}
use Rattle.std.specs.List.{AllByRecursion}
use Rattle.mcf_limits.specs.declared.TheConstants.{DEFAULT_PHASES, MAX_GAP, MAX_PHASES, MAX_STEP, MAX_WORK}
use Rattle.matrix_batch.specs.Matrices.{Matrix}
use Rattle.matrix_batch.specs.Batch.{batch_budget}
use Rattle.solver_run.specs.declared.options.SolveOptions.{SolveOptions}
use Rattle.solver_run.specs.Options.{AreOptions}
use Rattle.batch_cmd.specs.declared.asked.BatchAsked.{BatchAsked}

-- within the limits
pub record IsBatchAsked (a : BatchAsked) : Type 0 where
  pub gap : a.gap ≤ MAX_GAP
  pub phases : IfSome a.phases (λ p. (1 ≤ p) × (p ≤ MAX_PHASES))
  pub some_step : 1 ≤ a.step
  pub step : a.step ≤ MAX_STEP

-- the phase budget for each matrix
abbrev pub batch_phases : List Matrix → Option ℕ → ℕ
batch_phases batch (Some phases) = phases
batch_phases batch None = batch_budget batch

-- the options of the solve of each matrix, which has one worker
abbrev pub batch_options : List Matrix → BatchAsked → SolveOptions
batch_options batch a = record { gap = a.gap; phases = batch_phases batch a.phases; workers = 1; step = a.step }

-- each matrix can be solved with these options, by one worker
pub record AreSolvable (batch : List Matrix) (o : SolveOptions) : Type 0 where
  pub alone : o.workers ≡ 1
  pub each : AllByRecursion (λ (m : Matrix). AreOptions m.net.net o) batch

-- the default budget by the numbers of matrices and of all commodities
abbrev pub budget_for : ℕ → ℕ → ℕ
budget_for matrices commodities = if matrices == 0 then DEFAULT_PHASES else min DEFAULT_PHASES (MAX_WORK / commodities)
