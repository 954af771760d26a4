-- A run of the solver.
use Rattle.std.specs.Prelude.{◌≡◌, ◌⊎◌, ◌↔◌, ℕ, ◌+◌, ◌<◌, ◌≤◌, true, false, IsTrue, List, [], length, take, slice_index_or}
use Rattle.flow_model.specs.Network.{Network}
use Rattle.flow_model.specs.Least.{HasCut, HasNoCut}
use Rattle.flow_model.specs.Lengths.{lengths_of}
use Rattle.gap_fraction.specs.Fraction.{IsWithinGap}
use Rattle.flow_paths.specs.declared.certificate.Proof.{Proof}
use Rattle.flow_paths.specs.DualRows.{DualRows}
use Rattle.flow_paths.specs.Certificate.{upper_of}
use Rattle.flow_paths.specs.Least.{least_by}
use Rattle.flow_core.specs.Phase.{Routed, IsPhase}
use Rattle.solver_run.specs.declared.options.SolveOptions.{SolveOptions}
use Rattle.dual_bound.specs.Bounds.{IsBoundOf, IsCutDual}
use Rattle.solver_run.specs.History.{SolvedView, phases_of, loads_after, fill_after, lower_after, later_setting, setting_after, AreRoutedBy, AreRowsOf}

-- without rows
abbrev pub no_dual : DualRows
no_dual = record { lengths = []; potentials = [] }

-- of these duals the first of the least bound
abbrev pub least_dual : Network → List DualRows → DualRows
least_dual net duals = least_by (upper_of net) no_dual duals

-- the proof of a network with a cut
pub record IsCutProof (net : Network) (o : SolveOptions) (proof : Proof) : Type 0 where
  pub closed : proof.closed ≡ true
  pub gap : proof.gap ≡ o.gap
  pub phases : proof.routing.phases ≡ 0
  pub scale_cap : proof.routing.scale_cap ≡ 0
  pub scale_load : proof.routing.scale_load ≡ 1
  pub paths : proof.routing.paths ≡ []
  pub dual : IsCutDual net proof.dual

-- the lower fraction and the kept bound after p phases lie within the gap
abbrev pub IsClosedAfter : Network → SolveOptions → List (List Routed) → List DualRows → ℕ → Type 0
IsClosedAfter net o phases duals p = IsWithinGap (lower_after net phases p) (upper_of net (least_dual net (take p duals))) o.gap

-- the phase before which there were p is one, and the dual is that of the loads after it
pub record IsNext (net : Network) (o : SolveOptions) (phases : List (List Routed)) (p : ℕ) (dual : DualRows) : Type 0 where
  pub phase : IsPhase net (setting_after net o phases p) (loads_after net phases p) (loads_after net phases (p + 1)) (slice_index_or phases p [])
  pub bound : IsBoundOf net (lengths_of net (later_setting net o phases) (loads_after net phases (p + 1))) dual

-- phase after phase, the gap not met before the last, with a dual after each
pub record ArePhases (net : Network) (o : SolveOptions) (phases : List (List Routed)) (duals : List DualRows) : Type 0 where
  pub count : length duals ≡ length phases
  pub each : (p : ℕ) → p < length phases → IsNext net o phases p (slice_index_or duals p no_dual)
  pub goes_on : (p : ℕ) → 1 ≤ p → p < length phases → ¬ (IsClosedAfter net o phases duals p)

-- the proof is that of all phases, with the kept bound
pub record IsProofAfter (net : Network) (o : SolveOptions) (phases : List (List Routed)) (duals : List DualRows) (proof : Proof) : Type 0 where
  pub gap : proof.gap ≡ o.gap
  pub phases_are : proof.routing.phases ≡ length phases
  pub scale_cap : proof.routing.scale_cap ≡ (fill_after net phases (length phases)).num
  pub scale_load : proof.routing.scale_load ≡ (fill_after net phases (length phases)).den
  pub dual : proof.dual ≡ least_dual net duals

-- phases of the asked workers until the gap is met or the budget is spent, and the proof that they make
pub record IsPhasedRun (net : Network) (o : SolveOptions) (s : SolvedView) : Type 0 where
  pub some : 1 ≤ length s.history
  pub budget : length s.history ≤ o.phases
  pub duals : List DualRows
  pub phases : ArePhases net o (phases_of s) duals
  pub workers : AreRoutedBy o.workers (phases_of s)
  pub closed : IsTrue s.proof.closed ↔ IsClosedAfter net o (phases_of s) duals (length s.history)
  pub spent : s.proof.closed ≡ false → length s.history ≡ o.phases
  pub proof : IsProofAfter net o (phases_of s) duals s.proof
  pub rows : AreRowsOf net s.history s.proof.routing.paths

-- a cut's proof without a phase where some commodity has no walk over positive cells, else phases
abbrev pub IsSolverRun : Network → SolveOptions → SolvedView → Type 0
IsSolverRun net o s = (HasCut net × (s.history ≡ []) × IsCutProof net o s.proof) ⊎ (HasNoCut net × IsPhasedRun net o s)
