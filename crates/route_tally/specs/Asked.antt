-- What a sequential run is given, and the setting of its phases.
use Rattle.std.specs.Prelude.{ℕ, ◌*◌, ◌≤◌, ◌==◌, true, false, if◌then◌else◌}
use Rattle.flow_model.specs.declared.setting.Setting.{Setting}
use Rattle.gap_fraction.specs.Fraction.{Fraction}
use Rattle.mcf_limits.specs.declared.TheConstants.{MAX_GAP, MAX_PHASES, MAX_STEP, MAX_WORK}
use Rattle.route_tally.specs.declared.options.RunOptions.{RunOptions}

-- within the limits, and so is the work: phases times commodities
pub record AreRunOptions (commodities : ℕ) (o : RunOptions) : Type 0 where
  pub gap : o.gap ≤ MAX_GAP
  pub some_phase : 1 ≤ o.phases
  pub phases : o.phases ≤ MAX_PHASES
  pub some_step : 1 ≤ o.step
  pub step : o.step ≤ MAX_STEP
  pub work : commodities * o.phases ≤ MAX_WORK

-- in the first phase loads have no effect
abbrev pub first_setting : ℕ → Setting
first_setting step = record { first = true; ref_cap = 0; ref_load = 1; step = step }

-- after it this fraction is the reference, for the whole run
abbrev pub later_setting : ℕ → Fraction → Setting
later_setting step reference = record { first = false; ref_cap = reference.num; ref_load = reference.den; step = step }

-- the setting of the phase before which there were p
abbrev pub setting_after : ℕ → Fraction → ℕ → Setting
setting_after step reference p = if p == 0 then first_setting step else later_setting step reference
