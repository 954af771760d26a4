-- The ten conditions of a certificate of a total, and what a valid one is for.
use Rattle.std.specs.Prelude.{◌≡◌, ◌≢◌, ◌↔◌, ℕ, ◌*◌, ◌<◌, ◌≤◌, List, All, length, IsTrue, Some, slice_get}
use Rattle.mcf_limits.specs.declared.TheConstants.{MAX_GAP, MAX_LENGTH}
use Rattle.flow_model.specs.declared.net.Commodity.{Commodity}
use Rattle.flow_model.specs.Network.{Network}
use Rattle.flow_model.specs.Routing.{Row, carried}
use Rattle.flow_model.specs.Bound.{IsBelowEveryWalk}
use Rattle.gap_fraction.specs.Fraction.{IsWithinGap}
use Rattle.gap_fraction.specs.Decimals.{millionths_down, millionths_up}
use Rattle.flow_paths.specs.declared.certificate.Routing.{Routing}
use Rattle.flow_paths.specs.Certificate.{routing_of, lengths_in, distances_in, PathsAreWalks, LoadsFit, ScaleDivides, CellsHaveLengths, SourcesHaveRows, RowsArePotentials, IsPrinted, IsRoutingOf, IsPotentialOf}
use Rattle.cert_check.specs.declared.verdict.Fault.{Fault}
use Rattle.cert_check.specs.declared.verdict.Fault.TheVariants.{C1, C2, C3, C4, C5, C6, C7, C8, C9, C10}
use Rattle.route_tally.specs.Conditions.{EachHolds}
use Rattle.throughput.specs.declared.part_proof.PartDual.{PartDual}
use Rattle.throughput.specs.declared.part_proof.PartProof.{PartProof}
use Rattle.throughput.specs.Partial.{IsPartial, total_of, part_lower_of, part_upper_of}

-- every commodity's weights, scaled, are within its amount
abbrev pub AmountsFit : Network → Routing → Type 0
AmountsFit net r = (k : ℕ) (commodity : Commodity) → slice_get net.commodities k ≡ Some commodity → carried r.paths k * r.scale_cap ≤ r.scale_load * commodity.amount

-- both fractions are printed, the lower one rounded down, the upper one rounded up
pub record PartFractionsArePrinted (net : Network) (p : PartProof) : Type 0 where
  pub lower : IsPrinted p.lower (part_lower_of p.routing) (millionths_down (part_lower_of p.routing))
  pub upper : IsPrinted p.upper (part_upper_of net p.bound) (millionths_up (part_upper_of net p.bound))

-- the ten conditions
abbrev pub PartHolds : Network → PartProof → Fault → Type 0
PartHolds net p C1 = PathsAreWalks net p.routing
PartHolds net p C2 = AmountsFit net p.routing
PartHolds net p C3 = LoadsFit net p.routing
PartHolds net p C4 = ScaleDivides p.routing
PartHolds net p C5 = CellsHaveLengths net p.bound.dual
PartHolds net p C6 = SourcesHaveRows net p.bound.dual
PartHolds net p C7 = RowsArePotentials net p.bound.dual
PartHolds net p C8 = p.bound.threshold ≢ 0
PartHolds net p C9 = PartFractionsArePrinted net p
PartHolds net p C10 = IsTrue p.closed ↔ IsWithinGap (part_lower_of p.routing) (part_upper_of net p.bound) p.gap

-- all ten hold
abbrev pub IsValidPart : Network → PartProof → Type 0
IsValidPart net p = EachHolds (PartHolds net p)

-- the numbers are within the limits of a text, and the names are the network's
pub record IsPartProofOf (net : Network) (p : PartProof) : Type 0 where
  pub routing : IsRoutingOf net p.routing
  pub gap : p.gap ≤ MAX_GAP
  pub lower_micro : p.lower.micro < 1000000
  pub upper_micro : p.upper.micro < 1000000
  pub threshold : p.bound.threshold ≤ MAX_LENGTH
  pub lengths : All (λ r. r.cell < length net.cells) p.bound.dual.lengths
  pub potentials : All (IsPotentialOf net) p.bound.dual.potentials

-- no walk is shorter than its commodity's distance, and the fraction bounds the total of every partial routing
pub record BoundsTotals (net : Network) (b : PartDual) : Type 0 where
  pub below : IsBelowEveryWalk net (lengths_in net b.dual) (distances_in net b.dual)
  pub positive : 1 ≤ (part_upper_of net b).den
  pub bounds : (rows : List Row) (q : ℕ) → IsPartial net rows q → total_of rows * (part_upper_of net b).den ≤ q * (part_upper_of net b).num

-- the routing is a partial one, the bound is one on every such total, and closed says whether the two fractions lie within the gap
pub record IsPartCertified (net : Network) (p : PartProof) : Type 0 where
  pub partial : IsPartial net (routing_of p.routing) p.routing.scale_load
  pub total : total_of (routing_of p.routing) ≡ (part_lower_of p.routing).num
  pub bounds_all : BoundsTotals net p.bound
  pub closed : PartHolds net p C10
