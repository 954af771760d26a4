-- Layers by a search, and the bound that they give.
use Rattle.std.specs.Prelude.{◌≡◌, ℕ, ◌+◌, ◌≤◌, List, ◌++◌, All, length, map, filter, Option, if◌then◌else◌}
use Rattle.std.specs.Option.{is_none}
use Rattle.std.specs.List.{range_with_len}
use Rattle.mcf_limits.specs.declared.TheConstants.{MAX_HOPS, MAX_LENGTH}
use Rattle.flow_model.specs.declared.net.Cell.{Cell}
use Rattle.flow_model.specs.Network.{Network}
use Rattle.flow_model.specs.Bound.{weighted_distance}
use Rattle.flow_model.specs.Least.{far_or}
use Rattle.flow_paths.specs.Certificate.{IsPotentialOf, lengths_in}
use Rattle.hop_paths.specs.Allowed.{IsShortWalk, IsLeastOf, has_layer}
use Rattle.hop_paths.specs.Searched.{HopSearched, layer_dist}
use Rattle.hop_check.specs.LayerRows.{Layer}
use Rattle.hop_check.specs.Layers.{HopDual, hop_distances}
use Rattle.hop_check.specs.Conditions.{IsLayerOf}
use Rattle.hop_check.specs.Tables.{PotentialsAreAsked, LayersAreAsked}
use Rattle.hop_solve.specs.declared.layering.Numbers.{Numbers}
use Rattle.hop_solve.specs.declared.layering.Numbers.TheVariants.{Lengths, Marks}
use Rattle.hop_solve.specs.declared.bounds.HopBound.{HopBound}
use Rattle.hop_solve.specs.Run.{IsLayerWith}

-- the number of a node with this distance: the distance, or 2 ^ 62 where there is none; as a mark 0, or 1 where there is none
abbrev pub number_of : Numbers → Option ℕ → ℕ
number_of Lengths d = far_or d
number_of Marks d = if is_none d then 1 else 0

-- the number is that of the least length of a walk of at most i positive cells
abbrev pub IsNumber : Numbers → List Cell → List ℕ → ℕ → ℕ → ℕ → ℕ → Type 0
IsNumber kind cells lengths s i v n = (d : Option ℕ) × IsLeastOf (IsShortWalk cells s v i) lengths d × (n ≡ number_of kind d)

-- the number is that of the node's distance in layer i of the search
abbrev pub IsSearchedNumber : Numbers → HopSearched → ℕ → ℕ → ℕ → ℕ → Type 0
IsSearchedNumber kind s node i v n = n ≡ number_of kind (layer_dist s i v)

-- rows for these nodes and indices, with numbers of which the fact holds, are appended
pub record AddsLayers (nodes : ℕ) (Q : ℕ → ℕ → ℕ → ℕ → Type 0) (places : List (ℕ × ℕ)) (old new : List Layer) : Type 0 where
  pub rows : List Layer
  pub appended : new ≡ old ++ rows
  pub places_are : map (λ (r : Layer). (r.node, r.index)) rows ≡ places
  pub each : All (IsLayerWith nodes Q) rows

-- the first `count` layers of a node
abbrev pub first_layers : ℕ → ℕ → List (ℕ × ℕ)
first_layers node count = map (λ i. (node, i)) (range_with_len 0 count)

-- the layers that a node is asked for
abbrev pub asked_of : Network → List (Option ℕ) → ℕ → List (ℕ × ℕ)
asked_of net limits v = map (λ i. (v, i)) (filter (has_layer net limits v) (range_with_len 0 (MAX_HOPS + 1)))

-- what bounds in it
abbrev pub hop_dual_of : HopBound → HopDual
hop_dual_of b = record { dual = b.dual; layers = b.layers }

-- the value of the dual can be taken: its rows are those that are asked for, and the weighted distance is positive
pub record CanWeigh (net : Network) (limits : List (Option ℕ)) (lengths : List ℕ) (d : HopDual) : Type 0 where
  pub lengths_are : lengths_in net d.dual ≡ lengths
  pub sizes : length lengths ≡ length net.cells
  pub size_limit : All (λ n. n ≤ MAX_LENGTH) lengths
  pub potentials : All (IsPotentialOf net) d.dual.potentials
  pub layers : All (IsLayerOf net) d.layers
  pub asked : PotentialsAreAsked net limits d.dual.potentials
  pub asked_layers : LayersAreAsked net limits d.layers
  pub positive : 1 ≤ weighted_distance net.commodities (hop_distances net limits d)
