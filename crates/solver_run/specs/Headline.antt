-- What a solve promises of its answer.
use Rattle.std.specs.Prelude.{◌≡◌, ◌≢◌, ◌↔◌, ℕ, ◌*◌, ◌≤◌, false, IsTrue, Some, slice_get}
use Rattle.flow_model.specs.declared.net.Cell.{Cell}
use Rattle.flow_model.specs.Network.{Network}
use Rattle.flow_model.specs.Routing.{IsFeasible, load_of}
use Rattle.gap_fraction.specs.Fraction.{IsWithinGap}
use Rattle.flow_paths.specs.declared.certificate.Proof.{Proof}
use Rattle.flow_paths.specs.declared.certificate.Routing.{Routing}
use Rattle.flow_paths.specs.Certificate.{routing_of, lower_of, upper_of, FractionsArePrinted, BoundsAll, IsValid, IsProofOf}
use Rattle.solver_run.specs.declared.options.SolveOptions.{SolveOptions}
use Rattle.solver_run.specs.History.{SolvedView}
use Rattle.solver_run.specs.Run.{IsSolverRun}

-- both fractions are printed as they are, and closed says whether they lie within the asked gap
pub record IsPrintedFor (net : Network) (o : SolveOptions) (proof : Proof) : Type 0 where
  pub fractions : FractionsArePrinted net proof
  pub closed : IsTrue proof.closed ↔ IsWithinGap (lower_of proof.routing) (upper_of net proof.dual) o.gap

-- where there are phases, some cell with a load is filled exactly: more of every amount would not fit on these paths
pub record IsTight (net : Network) (r : Routing) : Type 0 where
  pub some : r.phases ≢ 0 → (c : ℕ) × (cell : Cell) × (slice_get net.cells c ≡ Some cell) × (1 ≤ load_of r.paths c) × (load_of r.paths c * r.scale_cap ≡ r.scale_load * cell.cap)

-- the routing is feasible, the lengths bound every feasible routing, the fractions and the verdict are printed as they are, open
-- comes only after the whole budget, and the history is a run; the scale is tight, and the certificate is valid and can be
-- written
pub record IsSolved (net : Network) (o : SolveOptions) (s : SolvedView) : Type 0 where
  pub feasible : IsFeasible net (routing_of s.proof.routing) (lower_of s.proof.routing).num (lower_of s.proof.routing).den
  pub bounds_all : BoundsAll net s.proof.dual
  pub printed : IsPrintedFor net o s.proof
  pub budget_spent : s.proof.closed ≡ false → s.proof.routing.phases ≡ o.phases
  pub history : IsSolverRun net o s
  pub tight : IsTight net s.proof.routing
  pub valid : IsValid net s.proof
  pub fits : IsProofOf net s.proof
