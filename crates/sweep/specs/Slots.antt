-- A place for what a plan is worth without a link, on the way to all of them.
use Rattle.std.specs.Prelude.{◌≡◌, ℕ, ◌+◌, ◌<◌, ◌≤◌, length, Option, None, IfSome}
use Rattle.mcf_limits.specs.declared.TheConstants.{MAX_LINKS}
use Rattle.unit_scale.specs.declared.modes.LinkMode.{LinkMode}
use Rattle.unit_scale.specs.Names.{cells_of}
use Rattle.whatif.specs.declared.bounds.Bounds.{Bounds}
use Rattle.whatif.specs.Planned.{Planned, evaluation_of}
use Rattle.sweep.specs.Sweep.{sweep_evaluation}

-- the plan has the cells of the link, and nothing is known yet
pub record IsBlank (mode : LinkMode) (p : Planned) (link : ℕ) (slot : Option Bounds) : Type 0 where
  pub few : link < MAX_LINKS
  pub cells : cells_of mode (link + 1) ≤ length p.caps
  pub blank : slot ≡ None

-- what the plan is worth without the link, or nothing
pub record IsSwept (mode : LinkMode) (p : Planned) (link : ℕ) (slot : Option Bounds) : Type 0 where
  pub value : IfSome slot (λ bounds. evaluation_of bounds ≡ sweep_evaluation mode p.net p.proof p.caps link)
