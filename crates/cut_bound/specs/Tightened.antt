-- The best certificate that certificates of a network give.
use Rattle.std.specs.Prelude.{◌≡◌, ◌≢◌, ◌≤◌, ℕ, Bool, List, [], ◌∷◌, map, if◌then◌else◌}
use Rattle.mcf_limits.specs.declared.TheConstants.{MAX_LENGTH, MAX_PHASES, MAX_UNITS}
use Rattle.flow_model.specs.Network.{Network}
use Rattle.flow_paths.specs.DualRows.{DualRows}
use Rattle.flow_paths.specs.declared.certificate.Routing.{Routing}
use Rattle.flow_paths.specs.declared.certificate.Proof.{Proof}
use Rattle.flow_paths.specs.Certificate.{lower_of, FractionsArePrinted, VerdictIsRight, IsProofOf, IsValid}
use Rattle.flow_paths.specs.Evaluation.{fraction_le}
use Rattle.cut_bound.specs.Candidates.{IsBestDual}

-- its numbers are within the limits of a text, and it carries a fraction
pub record HasFraction (r : Routing) : Type 0 where
  pub phases : r.phases ≤ MAX_PHASES
  pub scale_cap : r.scale_cap ≤ MAX_UNITS
  pub scale_load : r.scale_load ≤ MAX_LENGTH
  pub divides : r.scale_load ≢ 0

-- of the first and the others the first that carries the greatest fraction
abbrev pub greatest_routing : Routing → List Routing → Routing
greatest_routing r [] = r
greatest_routing r (q ∷ qs) =
    if fraction_le (lower_of (greatest_routing q qs)) (lower_of r) then r else greatest_routing q qs

abbrev pub routings : List Proof → List Routing
routings proofs = map (λ (p : Proof). p.routing) proofs

abbrev pub duals : List Proof → List DualRows
duals proofs = map (λ (p : Proof). p.dual) proofs

-- a valid certificate, whose numbers are within the limits of a text
pub record IsCertificateOf (net : Network) (proof : Proof) : Type 0 where
  pub fits : IsProofOf net proof
  pub valid : IsValid net proof

-- this gap, routing and dual, both fractions as they are printed, and the verdict of both by the gap; within the limits of a text
pub record IsMadeOf (net : Network) (asked : ℕ) (r : Routing) (d : DualRows) (proof : Proof) : Type 0 where
  pub gap : proof.gap ≡ asked
  pub routing : proof.routing ≡ r
  pub dual : proof.dual ≡ d
  pub printed : FractionsArePrinted net proof
  pub verdict : VerdictIsRight net proof
  pub fits : IsProofOf net proof

-- the gap of the first, the greatest routing, the best dual, and what follows of them
pub record IsTightened (net : Network) (both : Bool) (first : Proof) (others : List Proof) (best : Proof) : Type 0 where
  pub dual : DualRows
  pub best_dual : IsBestDual net both (duals (first ∷ others)) dual
  pub made : IsMadeOf net first.gap (greatest_routing first.routing (routings others)) dual best
