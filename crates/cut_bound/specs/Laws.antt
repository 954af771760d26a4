-- What a cut, and the best of several bounds, promise.
use Rattle.std.specs.Prelude.{◌≡◌, ◌≢◌, ℕ, ◌*◌, ◌≤◌, Bool, true, IsTrue, List, [], ◌∷◌, All}
use Rattle.std.specs.List.{AllZip}
use Rattle.mcf_limits.specs.declared.TheConstants.{MAX_LENGTH}
use Rattle.flow_model.specs.declared.net.Cell.{Cell}
use Rattle.flow_model.specs.Network.{Network, IsNetwork}
use Rattle.flow_model.specs.Routing.{Row, IsFeasible}
use Rattle.gap_fraction.specs.Fraction.{FractionLe}
use Rattle.flow_paths.specs.DualRows.{Length, Potential, DualRows}
use Rattle.flow_paths.specs.declared.certificate.Proof.{Proof}
use Rattle.flow_paths.specs.Certificate.{lower_of, upper_of, CellsHaveLengths, SourcesHaveRows, RowsArePotentials, DistanceDivides}
use Rattle.cut_bound.specs.Cuts.{Side, cut_value, cut_dual}
use Rattle.flow_paths.specs.Least.{IsFirstLeast}
use Rattle.cut_bound.specs.Candidates.{candidates, rows_in, AreLevels, IsBestDual}
use Rattle.cut_bound.specs.Least.{IsFirstGreatest}
use Rattle.cut_bound.specs.Tightened.{duals, routings, IsCertificateOf, IsTightened}

-- where cells are said to go both ways, all of them do
abbrev pub GoBothWays : Network → Bool → Type 0
GoBothWays net both = IsTrue both → All (λ (cell : Cell). cell.both ≡ true) net.cells

-- the dual of a cut that some commodity crosses meets the conditions on lengths and potentials
pub record CutDualIsValid (net : Network) (both : Bool) (side : Side) : Type 0 where
  pub cells : CellsHaveLengths net (cut_dual net both side)
  pub sources : SourcesHaveRows net (cut_dual net both side)
  pub potentials : RowsArePotentials net (cut_dual net both side)
  pub distance : DistanceDivides net (cut_dual net both side)

-- every cut that some commodity crosses has such a dual
abbrev pub CutDualsAreValid : Type 0
CutDualsAreValid = (net : Network) (both : Bool) (side : Side) → IsNetwork net → GoBothWays net both
    → (cut_value net both side).den ≢ 0 → CutDualIsValid net both side

-- its bound is what leaves the side over who crosses
abbrev pub CutDualIsItsValue : Type 0
CutDualIsItsValue = (net : Network) (both : Bool) (side : Side) → IsNetwork net
    → upper_of net (cut_dual net both side) ≡ cut_value net both side

-- no routing carries more of every amount than leaves the side over who crosses
abbrev pub CutsBoundRoutings : Type 0
CutsBoundRoutings = (net : Network) (both : Bool) (side : Side) (rows : List Row) (a q : ℕ) → IsNetwork net
    → GoBothWays net both → IsFeasible net rows a q
    → a * (cut_value net both side).den ≤ q * (cut_value net both side).num

-- the best bound is not above that of any dual that was there
abbrev pub BestIsNotAbove : Type 0
BestIsNotAbove = (net : Network) (both : Bool) (own : List DualRows) (best : DualRows) → IsNetwork net
    → All (λ d. DistanceDivides net d) own → IsBestDual net both own best
    → All (λ d. FractionLe (upper_of net best) (upper_of net d)) own

-- The dual is the first of the least of the candidates: the duals that were there, the cuts round each node and the fronts of all
-- rows. It is one of them, none is below it, and all before it are above it.
pub record IsFirstCandidate (net : Network) (both : Bool) (own : List DualRows) (best : DualRows) : Type 0 where
  pub levels : List (List ℕ)
  pub are_levels : AllZip (λ (row : Potential) (ts : List ℕ). AreLevels row.values ts) (rows_in own) levels
  pub first : IsFirstLeast (upper_of net) (candidates net both own levels) best

-- the lower fraction of the first is not below that of the second, and its upper one not above
pub record IsNoWorse (net : Network) (best p : Proof) : Type 0 where
  pub lower : FractionLe (lower_of p.routing) (lower_of best.routing)
  pub upper : FractionLe (upper_of net best.dual) (upper_of net p.dual)

-- of valid certificates comes a valid one that is no worse than any of them
pub record IsBetter (net : Network) (first : Proof) (others : List Proof) (best : Proof) : Type 0 where
  pub given : IsCertificateOf net best
  pub no_worse : All (IsNoWorse net best) (first ∷ others)

abbrev pub TightenedIsBest : Type 0
TightenedIsBest = (net : Network) (both : Bool) (first : Proof) (others : List Proof) (best : Proof) → IsNetwork net
    → GoBothWays net both → All (IsCertificateOf net) (first ∷ others) → IsTightened net both first others best
    → IsBetter net first others best

-- its dual is the first of the least of the candidates that they give
abbrev pub TightenedIsFirst : Type 0
TightenedIsFirst = (net : Network) (both : Bool) (first : Proof) (others : List Proof) (best : Proof) → IsNetwork net
    → All (IsCertificateOf net) (first ∷ others) → IsTightened net both first others best
    → IsFirstCandidate net both (duals (first ∷ others)) best.dual

-- its routing is the first of those that carry the greatest fraction
abbrev pub TightenedRoutingIsFirst : Type 0
TightenedRoutingIsFirst = (net : Network) (both : Bool) (first : Proof) (others : List Proof) (best : Proof)
    → All (IsCertificateOf net) (first ∷ others) → IsTightened net both first others best
    → IsFirstGreatest lower_of (routings (first ∷ others)) best.routing

-- there is one such certificate
abbrev pub TightenedIsUnique : Type 0
TightenedIsUnique = (net : Network) (both : Bool) (first : Proof) (others : List Proof) (best other : Proof)
    → IsTightened net both first others best → IsTightened net both first others other → best ≡ other

-- tightened again it stays as it is
abbrev pub TightenedStays : Type 0
TightenedStays = (net : Network) (both : Bool) (first : Proof) (others : List Proof) (best again : Proof)
    → IsNetwork net → GoBothWays net both → All (IsCertificateOf net) (first ∷ others)
    → IsTightened net both first others best → IsTightened net both best [] again → again ≡ best

-- its numbers are within the limit of a text
pub record IsSmall (dual : DualRows) : Type 0 where
  pub lengths : All (λ (r : Length). r.value ≤ MAX_LENGTH) dual.lengths
  pub potentials : All (λ (r : Potential). All (λ p. p ≤ MAX_LENGTH) r.values) dual.potentials

-- where the lengths and potentials of each certificate are within the limit, those of what is tightened are
abbrev pub TightenedIsSmall : Type 0
TightenedIsSmall = (net : Network) (both : Bool) (first : Proof) (others : List Proof) (best : Proof)
    → All (λ (p : Proof). IsSmall p.dual) (first ∷ others) → IsTightened net both first others best → IsSmall best.dual
