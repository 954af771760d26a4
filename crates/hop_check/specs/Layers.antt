-- The bound that lengths, potentials and layers give.
use Rattle.std.specs.Prelude.{ℕ, ◌-◌, ◌&&◌, ◌==◌, List, [], map, find, Option, Some, None, slice_index}
use Rattle.std.specs.Option.{option_map_or}
use Rattle.std.specs.List.{enumerate_from}
use Rattle.flow_model.specs.declared.net.Commodity.{Commodity}
use Rattle.flow_model.specs.Network.{Network}
use Rattle.flow_model.specs.Bound.{volume, weighted_distance}
use Rattle.gap_fraction.specs.Fraction.{Fraction}
use Rattle.flow_paths.specs.DualRows.{DualRows}
use Rattle.flow_paths.specs.Certificate.{lengths_in, distance_of}
use Rattle.hop_paths.specs.Allowed.{limit_at}
use Rattle.hop_check.specs.LayerRows.{Layer}
use Rattle.hop_check.specs.declared.hop_proof.HopProof.{HopProof}

-- lengths, potentials and layers
pub record HopDual : Type 0 where
  pub dual : DualRows
  pub layers : List Layer

-- these together
abbrev pub hop_dual : DualRows → List Layer → HopDual
hop_dual dual layers = record { dual = dual; layers = layers }

-- what bounds in a certificate
abbrev pub dual_of : HopProof → HopDual
dual_of h = record { dual = h.proof.dual; layers = h.layers }

-- the numbers of the layer of that source and index: those of its first row
abbrev pub layer_in : List Layer → ℕ → ℕ → List ℕ
layer_in layers v i = option_map_or (λ r. r.values) (find (λ r. (r.node == v) && (r.index == i)) layers) []

-- the distance of a commodity of this limit n: what its to has in layer n above what its from has in layer 0; without a limit
-- that of its potentials
abbrev pub hop_distance : HopDual → Option ℕ → Commodity → ℕ
hop_distance d None k = distance_of d.dual.potentials k
hop_distance d (Some n) k = slice_index (layer_in d.layers k.from n) k.to - slice_index (layer_in d.layers k.from 0) k.from

-- one distance per commodity
abbrev pub hop_distances : Network → List (Option ℕ) → HopDual → List ℕ
hop_distances net limits d = map (λ k. hop_distance d (limit_at limits k.0) k.1) (enumerate_from 0 net.commodities)

-- the bound: volume over weighted distance
abbrev pub hop_upper_of : Network → List (Option ℕ) → HopDual → Fraction
hop_upper_of net limits d = record { num = volume net.cells (lengths_in net d.dual); den = weighted_distance net.commodities (hop_distances net limits d) }
