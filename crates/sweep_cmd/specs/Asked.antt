-- What is asked of the solves of a sweep, and how much work they are.
use Rattle.std.specs.Prelude.{◌≡◌, ℕ, ◌*◌, ◌/◌, ◌<◌, ◌≤◌, ◌==◌, if◌then◌else◌, min, max, length, Option, Some, None, IfSome}
use Rattle.mcf_limits.specs.declared.TheConstants.{DEFAULT_PHASES, MAX_GAP, MAX_PHASES, MAX_STEP, MAX_WORK}
use Rattle.flow_model.specs.Network.{Network}
use Rattle.solver_run.specs.declared.options.SolveOptions.{SolveOptions}
use Rattle.sweep_cmd.specs.declared.asked.SweepAsked.{SweepAsked}
use Rattle.sweep_cmd.specs.declared.asked.SweepOptions.{SweepOptions}

-- within the limits
pub record IsSweepAsked (a : SweepAsked) : Type 0 where
  pub gap : a.gap ≤ MAX_GAP
  pub phases : IfSome a.phases (λ p. (1 ≤ p) × (p ≤ MAX_PHASES))
  pub some_step : 1 ≤ a.step
  pub step : a.step ≤ MAX_STEP

-- the phase budget for each link where none is given: the default, or as many phases as the most work allows, but at least one
abbrev pub sweep_budget : ℕ → ℕ → ℕ
sweep_budget links commodities =
    if links == 0 then DEFAULT_PHASES else max 1 (min DEFAULT_PHASES (MAX_WORK / (links * commodities)))

-- the phase budget for each link
abbrev pub sweep_phases : ℕ → ℕ → Option ℕ → ℕ
sweep_phases links commodities (Some phases) = phases
sweep_phases links commodities None = sweep_budget links commodities

-- links times commodities times phases
abbrev pub sweep_work : ℕ → ℕ → Option ℕ → ℕ
sweep_work links commodities phases = links * commodities * sweep_phases links commodities phases

-- the work, which is n, is over the most, whether phases were given or not
abbrev pub IsSweepTooMuch : ℕ → ℕ → Option ℕ → ℕ → Type 0
IsSweepTooMuch links commodities phases n = (n ≡ sweep_work links commodities phases) × (MAX_WORK < n)

-- the options of the solves of `links` links of the network
abbrev pub sweep_options : ℕ → Network → SweepAsked → SweepOptions
sweep_options links net a =
    record { gap = a.gap; phases = sweep_phases links (length net.commodities) a.phases; step = a.step }

-- the options of a solve with one worker
abbrev pub alone : SweepOptions → SolveOptions
alone o = record { gap = o.gap; phases = o.phases; workers = 1; step = o.step }
