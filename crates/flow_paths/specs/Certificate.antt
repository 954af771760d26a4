-- What a certificate stands for, and when it is valid for a network.
use Rattle.std.specs.Prelude.{◌≡◌, ◌≢◌, ◌↔◌, ℕ, ◌+◌, ◌-◌, ◌*◌, ◌<◌, ◌≤◌, List, length, All, map, find, Some, IsTrue, slice_get, slice_index, count_by, ◌==◌, if◌then◌else◌}
use Rattle.std.specs.Option.{option_map_or}
use Rattle.std.specs.List.{range_with_len}
use Rattle.flow_model.specs.declared.net.Cell.{Cell}
use Rattle.flow_model.specs.declared.net.Commodity.{Commodity}
use Rattle.flow_model.specs.Network.{Network}
use Rattle.flow_model.specs.Groups.{is_source}
use Rattle.flow_model.specs.Routing.{Row, carried, load_of, Joins, IsFeasible, scaled}
use Rattle.flow_model.specs.Bound.{IsBelowEveryWalk, IsPotential, volume, weighted_distance}
use Rattle.gap_fraction.specs.Fraction.{Fraction, IsWithinGap}
use Rattle.gap_fraction.specs.Decimals.{millionths_down, millionths_up}
use Rattle.flow_paths.specs.DualRows.{Length, Potential, DualRows}
use Rattle.flow_paths.specs.declared.certificate.Routing.{Routing}
use Rattle.flow_paths.specs.declared.certificate.Printed.{Printed}
use Rattle.flow_paths.specs.declared.certificate.Proof.{Proof}
use Rattle.mcf_limits.specs.declared.TheConstants.{MAX_GAP, MAX_LENGTH, MAX_PATH_CELLS, MAX_PHASES, MAX_UNITS}

-- the path rows with their weights times the scale's capacity
abbrev pub routing_of : Routing → List Row
routing_of r = scaled r.scale_cap r.paths

-- the fraction of every amount that it carries
abbrev pub lower_of : Routing → Fraction
lower_of r = record { num = r.phases * r.scale_cap; den = r.scale_load }

-- the length of a cell: that of its first row
abbrev pub length_of : List Length → ℕ → ℕ
length_of rows c = option_map_or (λ r. r.value) (find (λ r. r.cell == c) rows) 0

-- one length per cell
abbrev pub lengths_in : Network → DualRows → List ℕ
lengths_in net dual = map (length_of dual.lengths) (range_with_len 0 (length net.cells))

-- the difference of a commodity's potentials in the row of its from, and 0 where that is negative
abbrev pub distance_of : List Potential → Commodity → ℕ
distance_of rows k = option_map_or (λ r. slice_index r.values k.to - slice_index r.values k.from) (find (λ r. r.node == k.from) rows) 0

-- one distance per commodity
abbrev pub distances_in : Network → DualRows → List ℕ
distances_in net dual = map (distance_of dual.potentials) net.commodities

-- the bound: volume over weighted distance
abbrev pub upper_of : Network → DualRows → Fraction
upper_of net dual = record { num = volume net.cells (lengths_in net dual); den = weighted_distance net.commodities (distances_in net dual) }

-- every path is a walk from its commodity's from to its to
abbrev pub PathsAreWalks : Network → Routing → Type 0
PathsAreWalks net r = All (Joins net) r.paths

-- every commodity's weights sum to phases times its amount
abbrev pub PhasesAreCarried : Network → Routing → Type 0
PhasesAreCarried net r = (k : ℕ) (commodity : Commodity) → slice_get net.commodities k ≡ Some commodity → carried r.paths k ≡ r.phases * commodity.amount

-- every cell's load, scaled, is within its capacity
abbrev pub LoadsFit : Network → Routing → Type 0
LoadsFit net r = (c : ℕ) (cell : Cell) → slice_get net.cells c ≡ Some cell → load_of r.paths c * r.scale_cap ≤ r.scale_load * cell.cap

-- the scale divides by something
abbrev pub ScaleDivides : Routing → Type 0
ScaleDivides r = r.scale_load ≢ 0

-- every cell has exactly one length row
pub record CellsHaveLengths (net : Network) (dual : DualRows) : Type 0 where
  pub each : (c : ℕ) → c < length net.cells → count_by (λ r. r.cell == c) dual.lengths ≡ 1

-- the potential rows are of the commodities' sources, each once, and of no other node
pub record SourcesHaveRows (net : Network) (dual : DualRows) : Type 0 where
  pub each : (v : ℕ) → v < net.nodes → count_by (λ r. r.node == v) dual.potentials ≡ (if is_source net.commodities v then 1 else 0)

-- in no row does a traversal raise the potential by more than the cell's length
pub record RowsArePotentials (net : Network) (dual : DualRows) : Type 0 where
  pub each : All (λ r. IsPotential net.cells (lengths_in net dual) r.values) dual.potentials

-- the weighted distance is not 0
pub record DistanceDivides (net : Network) (dual : DualRows) : Type 0 where
  pub divides : weighted_distance net.commodities (distances_in net dual) ≢ 0

-- a fraction is printed with these parts and this number of millionths
pub record IsPrinted (p : Printed) (f : Fraction) (millionths : ℕ) : Type 0 where
  pub num : p.num ≡ f.num
  pub den : p.den ≡ f.den
  pub decimals : p.whole * 1000000 + p.micro ≡ millionths

-- both fractions are printed, the lower one rounded down, the upper one rounded up
pub record FractionsArePrinted (net : Network) (proof : Proof) : Type 0 where
  pub lower : IsPrinted proof.lower (lower_of proof.routing) (millionths_down (lower_of proof.routing))
  pub upper : IsPrinted proof.upper (upper_of net proof.dual) (millionths_up (upper_of net proof.dual))

-- the verdict is closed exactly where the fractions lie within the gap
pub record VerdictIsRight (net : Network) (proof : Proof) : Type 0 where
  pub closed : IsTrue proof.closed ↔ IsWithinGap (lower_of proof.routing) (upper_of net proof.dual) proof.gap

-- the four conditions on a routing
pub record IsValidRouting (net : Network) (r : Routing) : Type 0 where
  pub walks : PathsAreWalks net r
  pub carried : PhasesAreCarried net r
  pub loads : LoadsFit net r
  pub scale : ScaleDivides r

-- all ten conditions
pub record IsValid (net : Network) (proof : Proof) : Type 0 where
  pub routing : IsValidRouting net proof.routing
  pub lengths : CellsHaveLengths net proof.dual
  pub sources : SourcesHaveRows net proof.dual
  pub potentials : RowsArePotentials net proof.dual
  pub distance : DistanceDivides net proof.dual
  pub printed : FractionsArePrinted net proof
  pub verdict : VerdictIsRight net proof

-- the row names a commodity and cells of the network, of which it has at most MAX_PATH_CELLS
pub record IsRowOf (net : Network) (row : Row) : Type 0 where
  pub commodity : row.commodity < length net.commodities
  pub cells : All (λ c. c < length net.cells) row.walk
  pub short : length row.walk ≤ MAX_PATH_CELLS

-- the numbers are within the limits of a routing text, and the names are the network's
pub record IsRoutingOf (net : Network) (r : Routing) : Type 0 where
  pub phases : r.phases ≤ MAX_PHASES
  pub scale_cap : r.scale_cap ≤ MAX_UNITS
  pub scale_load : r.scale_load ≤ MAX_LENGTH
  pub rows : All (IsRowOf net) r.paths

-- a potential row is of a node of the network, and has one potential per node
pub record IsPotentialOf (net : Network) (r : Potential) : Type 0 where
  pub node : r.node < net.nodes
  pub values : length r.values ≡ net.nodes

-- the numbers are within the limits of a certificate text, and the names are the network's
pub record IsProofOf (net : Network) (proof : Proof) : Type 0 where
  pub routing : IsRoutingOf net proof.routing
  pub gap : proof.gap ≤ MAX_GAP
  pub lower_micro : proof.lower.micro < 1000000
  pub upper_micro : proof.upper.micro < 1000000
  pub lengths : All (λ r. r.cell < length net.cells) proof.dual.lengths
  pub potentials : All (IsPotentialOf net) proof.dual.potentials

-- no walk of a commodity is shorter than its distance, and volume over weighted distance bounds the fraction of every feasible routing
pub record BoundsAll (net : Network) (dual : DualRows) : Type 0 where
  pub below : IsBelowEveryWalk net (lengths_in net dual) (distances_in net dual)
  pub positive : 1 ≤ (upper_of net dual).den
  pub bounds : (rows : List Row) (a q : ℕ) → IsFeasible net rows a q → a * (upper_of net dual).den ≤ q * (upper_of net dual).num

-- the routing is feasible, the lengths bound every feasible routing, and closed says whether the two fractions lie within the gap
pub record IsCertified (net : Network) (proof : Proof) : Type 0 where
  pub feasible : IsFeasible net (routing_of proof.routing) (lower_of proof.routing).num (lower_of proof.routing).den
  pub bounds_all : BoundsAll net proof.dual
  pub closed : VerdictIsRight net proof
