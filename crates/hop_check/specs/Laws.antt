-- What a certificate with hop limits promises.
use Rattle.std.specs.Prelude.{◌≡◌, ℕ, ◌*◌, ◌-◌, ◌≤◌, List, length, Option, Some, None, slice_get, slice_index}
use Rattle.flow_model.specs.declared.net.Commodity.{Commodity}
use Rattle.flow_model.specs.Network.{Network, IsNetwork}
use Rattle.flow_model.specs.Routing.{Row}
use Rattle.flow_model.specs.Bound.{volume, weighted_distance, IsPotential}
use Rattle.hop_paths.specs.Allowed.{limit_at, AreLimits, IsHopFeasible}
use Rattle.hop_paths.specs.Layers.{IsLayers}
use Rattle.hop_check.specs.declared.hop_proof.HopProof.{HopProof}
use Rattle.hop_check.specs.Conditions.{IsBelowWalksWithin, IsValidHops, IsHopCertified}

-- a valid certificate certifies: its bound is one on every routing within the limits
abbrev pub ValidHopsCertify : Type 0
ValidHopsCertify = (net : Network) (limits : List (Option ℕ)) (h : HopProof) → IsNetwork net → AreLimits net limits → IsValidHops net limits h → IsHopCertified net limits h

-- Whatever the lengths: of distances that no walk within its limit is shorter than, volume over weighted distance bounds the
-- fraction of every routing within the limits.
abbrev pub DistancesBoundWithin : Type 0
DistancesBoundWithin = (net : Network) (limits : List (Option ℕ)) (lengths distances : List ℕ) (rows : List Row) (a q : ℕ)
    → length lengths ≡ length net.cells → IsBelowWalksWithin net limits lengths distances → IsHopFeasible net limits rows a q
    → a * weighted_distance net.commodities distances ≤ q * volume net.cells lengths

-- What the numbers of a commodity's from say of its distance. With a limit n: they are layers 0 to n, and it is what to has in
-- layer n above what from has in layer 0. Without one: they are a potential, and it is what to has above what from has.
abbrev pub IsGiven : Network → List ℕ → (ℕ → ℕ → List ℕ) → (ℕ → List ℕ) → Commodity → ℕ → Option ℕ → Type 0
IsGiven net lengths layers potentials commodity distance (Some n) = IsLayers net lengths (layers commodity.from) n
    × (distance ≡ slice_index (layers commodity.from n) commodity.to - slice_index (layers commodity.from 0) commodity.from)
IsGiven net lengths layers potentials commodity distance None = IsPotential net.cells lengths (potentials commodity.from)
    × (distance ≡ slice_index (potentials commodity.from) commodity.to - slice_index (potentials commodity.from) commodity.from)

-- the distance of each commodity is given so, by its limit
abbrev pub AreGiven : Network → List (Option ℕ) → List ℕ → (ℕ → ℕ → List ℕ) → (ℕ → List ℕ) → List ℕ → Type 0
AreGiven net limits lengths layers potentials distances = (k : ℕ) (commodity : Commodity) → slice_get net.commodities k ≡ Some commodity
    → IsGiven net lengths layers potentials commodity (slice_index distances k) (limit_at limits k)

-- whatever the lengths, the layers and the potentials of nodes: such distances bound the fraction of every routing within the limits
abbrev pub LayersBoundRoutings : Type 0
LayersBoundRoutings = (net : Network) (limits : List (Option ℕ)) (lengths distances : List ℕ) (layers : ℕ → ℕ → List ℕ) (potentials : ℕ → List ℕ) (rows : List Row) (a q : ℕ)
    → IsNetwork net → length lengths ≡ length net.cells → AreGiven net limits lengths layers potentials distances
    → IsHopFeasible net limits rows a q → a * weighted_distance net.commodities distances ≤ q * volume net.cells lengths
