-- What a solve has reached after some phases.
use Rattle.std.specs.Prelude.{◌≡◌, ℕ, ◌*◌, ◌≤◌, List, All, length}
use Rattle.flow_model.specs.Network.{Network}
use Rattle.gap_fraction.specs.Fraction.{Fraction, IsWithinGap}
use Rattle.flow_paths.specs.DualRows.{DualRows}
use Rattle.flow_paths.specs.Certificate.{upper_of}
use Rattle.flow_paths.specs.declared.fill.Fill.{Fill}
use Rattle.flow_paths.specs.Fullness.{IsFill, fullness}
use Rattle.flow_core.specs.Phase.{Routed}
use Rattle.dual_bound.specs.Bounds.{ShowsBound}
use Rattle.solver_run.specs.declared.options.SolveOptions.{SolveOptions}
use Rattle.solver_run.specs.History.{fill_after, AreRoutedBy}
use Rattle.solver_run.specs.Run.{least_dual, ArePhases}
use Rattle.flow_solver.specs.declared.reached.Reached.{Reached}
use Rattle.flow_solver.specs.Search.{ArePhasesOf, IsSearch, phase_count}

-- each dual has a value
abbrev pub AllDivide : Network → List DualRows → Type 0
AllDivide net duals = All (λ (d : DualRows). 1 ≤ (upper_of net d).den) duals

-- the fraction of every amount that is carried after n phases, where the fullest cell has this capacity and load
abbrev pub carried : ℕ → Fill → Fraction
carried n f = record { num = n * f.cap; den = f.load }

-- these phases are those of a run, of which the kept bound is the first of the least
pub record IsReached (net : Network) (o : SolveOptions) (r : Reached) : Type 0 where
  pub made : List (List Routed)
  pub made_are : ArePhasesOf net r.search made
  pub search : IsSearch net made r.search
  pub hands : length r.search.hands.items ≡ o.workers
  pub workers : AreRoutedBy o.workers made
  pub reference : fullness r.reference ≡ fill_after net made 1
  pub reference_fits : IsFill r.reference
  pub fill : fullness r.fill ≡ fill_after net made (length made)
  pub fill_fits : IsFill r.fill
  pub duals : List DualRows
  pub phases : ArePhases net o made duals
  pub divide : AllDivide net duals
  pub kept : r.kept.dual ≡ least_dual net duals
  pub value : r.kept.value ≡ upper_of net r.kept.dual
  pub shows : (lengths : List ℕ) × ShowsBound net lengths r.kept.dual

-- the carried fraction and the kept bound lie within the gap
abbrev pub IsMet : Network → SolveOptions → Reached → Type 0
IsMet net o r = IsWithinGap (carried (phase_count r.search) r.fill) (upper_of net r.kept.dual) o.gap
