-- What is asked of a solve.
use Rattle.std.specs.Prelude.{◌≡◌, ℕ, ◌*◌, ◌/◌, ◌<◌, ◌≤◌, min, length, nat_lt, Option, Some, None, IfSome, if◌then◌else◌}
use Rattle.mcf_limits.specs.declared.TheConstants.{DEFAULT_PHASES, DEFAULT_WORKERS, FEW_COMMODITIES, MAX_GAP, MAX_PHASES, MAX_STEP, MAX_WORK, MAX_WORKERS}
use Rattle.flow_model.specs.Network.{Network}
use Rattle.solver_run.specs.declared.options.SolveOptions.{SolveOptions}
use Rattle.route_tally.specs.declared.options.RunOptions.{RunOptions}
use Rattle.net_solve.specs.declared.asked.Asked.{Asked}

-- within the limits
pub record IsAsked (a : Asked) : Type 0 where
  pub gap : a.gap ≤ MAX_GAP
  pub phases : IfSome a.phases (λ p. (1 ≤ p) × (p ≤ MAX_PHASES))
  pub workers : IfSome a.workers (λ w. (1 ≤ w) × (w ≤ MAX_WORKERS))
  pub some_step : 1 ≤ a.step
  pub step : a.step ≤ MAX_STEP

-- the phase budget where none is given: the default, or as many phases as the most work allows
abbrev pub default_budget : ℕ → ℕ
default_budget commodities = min DEFAULT_PHASES (MAX_WORK / commodities)

-- the phase budget
abbrev pub budget_of : Network → Option ℕ → ℕ
budget_of net (Some p) = p
budget_of net None = default_budget (length net.commodities)

-- the workers: where no number is given, one for few commodities, and else the default
abbrev pub workers_of : Network → Option ℕ → ℕ
workers_of net (Some w) = w
workers_of net None = if nat_lt (length net.commodities) FEW_COMMODITIES then 1 else DEFAULT_WORKERS

-- the options of a solve of the network
abbrev pub options_for : Network → Asked → SolveOptions
options_for net a = record { gap = a.gap; phases = budget_of net a.phases; workers = workers_of net a.workers; step = a.step }

-- the options of a run on the network that routes one commodity after the other
abbrev pub turn_options_for : Network → Asked → RunOptions
turn_options_for net a = record { gap = a.gap; phases = budget_of net a.phases; step = a.step }

-- a budget was given, and commodities times phases, which is n, is over the most work
abbrev pub IsTooMuch : Network → Asked → ℕ → Type 0
IsTooMuch net a n = (p : ℕ) × (a.phases ≡ Some p) × (n ≡ length net.commodities * p) × (MAX_WORK < n)
