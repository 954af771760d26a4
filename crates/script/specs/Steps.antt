-- The steps of a script: links that get a capacity, and places at which the bounds are shown.
use Rattle.std.specs.Prelude.{ℕ, ◌<◌, ◌≤◌, List, All}
use Rattle.mcf_limits.specs.declared.TheConstants.{MAX_LINKS, MAX_UNITS}
use Rattle.unit_scale.specs.declared.modes.LinkMode.{LinkMode}
use Rattle.unit_scale.specs.Names.{cells_of}
use Rattle.script.specs.declared.step.Step.{Step}
use Rattle.script.specs.declared.step.Step.TheVariants.{Edit, Show}

-- how the links are read, and the steps
pub record ScriptView : Type 0 where
  pub mode : LinkMode
  pub steps : List Step

-- an edit names a link below this number, and its capacity is within the limit
abbrev pub IsStep : ℕ → Step → Type 0
IsStep links (Edit link cap) = (link < links) × (cap ≤ MAX_UNITS)
IsStep links Show = Unit {0}

-- the same of each step
abbrev pub AreSteps : ℕ → List Step → Type 0
AreSteps links steps = All (IsStep links) steps

-- the steps are of links whose cells are among `cells` cells, and there are no more links than the limit
pub record AreStepsOfCells (mode : LinkMode) (cells : ℕ) (steps : List Step) : Type 0 where
  pub links : ℕ
  pub few : links ≤ MAX_LINKS
  pub enough : cells_of mode links ≤ cells
  pub each : AreSteps links steps
