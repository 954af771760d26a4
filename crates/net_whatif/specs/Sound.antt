-- What the lines that a script writes are worth.
use Rattle.std.specs.Prelude.{◌≡◌, ℕ, List, All, Some, take, slice_get}
use Rattle.text_lines.specs.Lines.{Line}
use Rattle.flow_paths.specs.Evaluation.{edited}
use Rattle.unit_scale.specs.declared.modes.LinkMode.{LinkMode}
use Rattle.script.specs.declared.step.Step.{Step}
use Rattle.script.specs.declared.step.Step.TheVariants.{Show}
use Rattle.whatif.specs.Planned.{Planned, AreBounds, after_steps, shown_of}
use Rattle.whatif.specs.Shown.{show_line, shown_lines}

-- the plan after the first `count` steps
abbrev pub plan_after : LinkMode → Planned → List Step → ℕ → Planned
plan_after mode p steps count = after_steps mode p (take count steps)

-- The line is that of a `show`, and has both fractions under the capacities that the steps before it leave: the lower one is that of a
-- feasible routing of the network with these capacities, and the upper one bounds all of them.
pub record IsSoundLine (mode : LinkMode) (p : Planned) (steps : List Step) (line : Line) : Type 0 where
  pub count : ℕ
  pub shows : slice_get steps count ≡ Some Show
  pub shown : line ≡ show_line (shown_of (plan_after mode p steps count))
  pub bounds : AreBounds (edited p.net (plan_after mode p steps count).caps) p.proof (shown_of (plan_after mode p steps count))

-- each line that the steps write is such a line
abbrev pub AreSoundLines : LinkMode → Planned → List Step → Type 0
AreSoundLines mode p steps = All (IsSoundLine mode p steps) (shown_lines mode p steps)
