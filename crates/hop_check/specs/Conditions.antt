-- The ten conditions of a certificate with hop limits, and what a valid one is for.
use Rattle.std.specs.Prelude.{◌≡◌, ◌≢◌, ◌↔◌, ℕ, ◌*◌, ◌<◌, ◌≤◌, ◌&&◌, ◌==◌, List, All, length, IsTrue, Option, Some, slice_get, slice_index, count_by, if◌then◌else◌}
use Rattle.mcf_limits.specs.declared.TheConstants.{MAX_HOPS}
use Rattle.flow_model.specs.declared.net.Commodity.{Commodity}
use Rattle.flow_model.specs.Network.{Network}
use Rattle.flow_model.specs.Routing.{Row}
use Rattle.flow_model.specs.Walk.{IsWalk}
use Rattle.flow_model.specs.Bound.{walk_length, weighted_distance}
use Rattle.gap_fraction.specs.Fraction.{IsWithinGap}
use Rattle.gap_fraction.specs.Decimals.{millionths_down, millionths_up}
use Rattle.flow_paths.specs.declared.certificate.Routing.{Routing}
use Rattle.flow_paths.specs.Certificate.{routing_of, lower_of, lengths_in, PathsAreWalks, PhasesAreCarried, LoadsFit, ScaleDivides, CellsHaveLengths, RowsArePotentials, IsPrinted, IsProofOf}
use Rattle.cert_check.specs.declared.verdict.Fault.{Fault}
use Rattle.cert_check.specs.declared.verdict.Fault.TheVariants.{C1, C2, C3, C4, C5, C6, C7, C8, C9, C10}
use Rattle.route_tally.specs.Conditions.{EachHolds}
use Rattle.hop_paths.specs.Allowed.{limit_at, IsWithin, is_unlimited, has_layer, AreWithin, IsHopFeasible}
use Rattle.hop_paths.specs.Layers.{IsLayers}
use Rattle.hop_check.specs.LayerRows.{Layer}
use Rattle.hop_check.specs.declared.hop_proof.HopProof.{HopProof}
use Rattle.hop_check.specs.Layers.{HopDual, dual_of, layer_in, hop_distances, hop_upper_of}

-- every path is a walk from its commodity's from to its to, within its limit
pub record PathsAreAllowed (net : Network) (limits : List (Option ℕ)) (r : Routing) : Type 0 where
  pub walks : PathsAreWalks net r
  pub within : AreWithin limits r.paths

-- the potential rows are of the sources of commodities without a limit, the layers of a source go from 0 to the greatest limit of
-- its commodities; each row once, and no other
pub record RowsAreAsked (net : Network) (limits : List (Option ℕ)) (h : HopProof) : Type 0 where
  pub potentials : (v : ℕ) → v < net.nodes → count_by (λ r. r.node == v) h.proof.dual.potentials ≡ (if is_unlimited net limits v then 1 else 0)
  pub layers : (v i : ℕ) → v < net.nodes → count_by (λ r. (r.node == v) && (r.index == i)) h.layers ≡ (if has_layer net limits v i then 1 else 0)

-- the potential rows are potentials, and up to each commodity's limit the layers of its from are layers
pub record RowsBound (net : Network) (limits : List (Option ℕ)) (h : HopProof) : Type 0 where
  pub potentials : RowsArePotentials net h.proof.dual
  pub layers : (k n : ℕ) (commodity : Commodity) → slice_get net.commodities k ≡ Some commodity → limit_at limits k ≡ Some n
      → IsLayers net (lengths_in net h.proof.dual) (layer_in h.layers commodity.from) n

-- both fractions are printed, the lower one rounded down, the upper one rounded up
pub record HopFractionsArePrinted (net : Network) (limits : List (Option ℕ)) (h : HopProof) : Type 0 where
  pub lower : IsPrinted h.proof.lower (lower_of h.proof.routing) (millionths_down (lower_of h.proof.routing))
  pub upper : IsPrinted h.proof.upper (hop_upper_of net limits (dual_of h)) (millionths_up (hop_upper_of net limits (dual_of h)))

-- the ten conditions
abbrev pub HopHolds : Network → List (Option ℕ) → HopProof → Fault → Type 0
HopHolds net limits h C1 = PathsAreAllowed net limits h.proof.routing
HopHolds net limits h C2 = PhasesAreCarried net h.proof.routing
HopHolds net limits h C3 = LoadsFit net h.proof.routing
HopHolds net limits h C4 = ScaleDivides h.proof.routing
HopHolds net limits h C5 = CellsHaveLengths net h.proof.dual
HopHolds net limits h C6 = RowsAreAsked net limits h
HopHolds net limits h C7 = RowsBound net limits h
HopHolds net limits h C8 = weighted_distance net.commodities (hop_distances net limits (dual_of h)) ≢ 0
HopHolds net limits h C9 = HopFractionsArePrinted net limits h
HopHolds net limits h C10 = IsTrue h.proof.closed ↔ IsWithinGap (lower_of h.proof.routing) (hop_upper_of net limits (dual_of h)) h.proof.gap

-- all ten hold
abbrev pub IsValidHops : Network → List (Option ℕ) → HopProof → Type 0
IsValidHops net limits h = EachHolds (HopHolds net limits h)

-- the row is of a node of the network, with an index within the limit and one number per node
pub record IsLayerOf (net : Network) (r : Layer) : Type 0 where
  pub node : r.node < net.nodes
  pub index : r.index ≤ MAX_HOPS
  pub values : length r.values ≡ net.nodes

-- the numbers are within the limits of a text, and the names are the network's
pub record IsHopProofOf (net : Network) (h : HopProof) : Type 0 where
  pub proof : IsProofOf net h.proof
  pub layers : All (IsLayerOf net) h.layers

-- no walk of a commodity within its limit is shorter than the commodity's distance
abbrev pub IsBelowWalksWithin : Network → List (Option ℕ) → List ℕ → List ℕ → Type 0
IsBelowWalksWithin net limits lengths distances = (k : ℕ) (commodity : Commodity) (walk : List ℕ) → slice_get net.commodities k ≡ Some commodity
    → IsWalk net.cells commodity.from commodity.to walk → IsWithin (limit_at limits k) walk → slice_index distances k ≤ walk_length lengths walk

-- no walk within its limit is shorter than its commodity's distance, and volume over weighted distance bounds the fraction of
-- every routing within the limits
pub record BoundsHops (net : Network) (limits : List (Option ℕ)) (d : HopDual) : Type 0 where
  pub below : IsBelowWalksWithin net limits (lengths_in net d.dual) (hop_distances net limits d)
  pub positive : 1 ≤ (hop_upper_of net limits d).den
  pub bounds : (rows : List Row) (a q : ℕ) → IsHopFeasible net limits rows a q → a * (hop_upper_of net limits d).den ≤ q * (hop_upper_of net limits d).num

-- the routing is feasible within the limits, the bound is one on every such routing, and closed says whether the two fractions
-- lie within the gap
pub record IsHopCertified (net : Network) (limits : List (Option ℕ)) (h : HopProof) : Type 0 where
  pub feasible : IsHopFeasible net limits (routing_of h.proof.routing) (lower_of h.proof.routing).num (lower_of h.proof.routing).den
  pub bounds_all : BoundsHops net limits (dual_of h)
  pub closed : HopHolds net limits h C10
