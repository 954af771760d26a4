-- Tables of the rows that are asked for, and of where they stand.
use Rattle.std.specs.Prelude.{◌≡◌, ℕ, ◌+◌, ◌*◌, ◌<◌, ◌≤◌, ◌==◌, ◌&&◌, nat_lt, find, count_by, if◌then◌else◌, List, length, Option, Some, None, slice_get, slice_index}
use Rattle.mcf_limits.specs.declared.TheConstants.{MAX_HOPS}
use Rattle.flow_model.specs.declared.net.Cell.{Cell}
use Rattle.flow_model.specs.declared.net.Commodity.{Commodity}
use Rattle.flow_model.specs.Network.{Network}
use Rattle.flow_model.specs.Walk.{Goes}
use Rattle.flow_paths.specs.DualRows.{Potential, potential_at}
use Rattle.hop_paths.specs.Allowed.{limit_at, is_unlimited, has_layer}
use Rattle.hop_paths.specs.Layers.{IsLayers}
use Rattle.hop_check.specs.LayerRows.{Layer, layer_at}
use Rattle.hop_check.specs.Layers.{HopDual, layer_in}

-- where the layer of a source and an index stands in a table that has a place for each index of each node
abbrev pub place_of : ℕ → ℕ → ℕ
place_of v i = v * (MAX_HOPS + 1) + i

-- how many layers each node is asked for
pub record AreCounts (net : Network) (limits : List (Option ℕ)) (counts : List ℕ) : Type 0 where
  pub len : length counts ≡ net.nodes
  pub small : (v : ℕ) → v < net.nodes → slice_index counts v ≤ MAX_HOPS + 1
  pub each : (v i : ℕ) → v < net.nodes → has_layer net limits v i ≡ nat_lt i (slice_index counts v)

-- the table has the number of the source's row of potentials, which is as long as there are nodes
pub record IsRowPlaced (nodes : ℕ) (rows : List Potential) (places : List ℕ) (v : ℕ) : Type 0 where
  pub inside : v < length places
  pub row : slice_index places v < length rows
  pub found : find (λ r. r.node == v) rows ≡ Some (potential_at rows (slice_index places v))
  pub long : length (potential_at rows (slice_index places v)).values ≡ nodes

-- the table has the number of the layer's row, which is as long as there are nodes
pub record IsPlaced (nodes : ℕ) (layers : List Layer) (places : List ℕ) (v i : ℕ) : Type 0 where
  pub inside : place_of v i < length places
  pub row : slice_index places (place_of v i) < length layers
  pub found : layer_in layers v i ≡ (layer_at layers (slice_index places (place_of v i))).values
  pub long : length (layer_in layers v i) ≡ nodes

-- of each layer that is asked for
abbrev pub ArePlaces : ℕ → List ℕ → List Layer → List ℕ → Type 0
ArePlaces nodes counts layers places = (v i : ℕ) → v < nodes → i < slice_index counts v → IsPlaced nodes layers places v i

-- of what the commodity's distance is taken from
abbrev pub HasPlaces : ℕ → HopDual → List ℕ → List ℕ → Option ℕ → Commodity → Type 0
HasPlaces nodes d rows places None k = IsRowPlaced nodes d.dual.potentials rows k.from
HasPlaces nodes d rows places (Some n) k = IsPlaced nodes d.layers places k.from n × IsPlaced nodes d.layers places k.from 0

-- the two rules of layers, from one to the next
pub record IsNextLayer (net : Network) (lengths below above : List ℕ) : Type 0 where
  pub goes : (c : ℕ) (cell : Cell) (u v : ℕ) → slice_get net.cells c ≡ Some cell → Goes cell u v → slice_index above v ≤ slice_index below u + slice_index lengths c
  pub falls : (v : ℕ) → v < net.nodes → slice_index above v ≤ slice_index below v

-- each layer that is asked for is the next of the one before
abbrev pub AreNext : Network → List ℕ → List ℕ → List Layer → Type 0
AreNext net counts lengths layers = (v i : ℕ) → v < net.nodes → i + 1 < slice_index counts v → IsNextLayer net lengths (layer_in layers v i) (layer_in layers v (i + 1))

-- each source of a commodity without a limit has one row of potentials, and no other node has any
abbrev pub PotentialsAreAsked : Network → List (Option ℕ) → List Potential → Type 0
PotentialsAreAsked net limits rows = (v : ℕ) → v < net.nodes → count_by (λ r. r.node == v) rows ≡ (if is_unlimited net limits v then 1 else 0)

-- each layer up to the greatest limit of its source's commodities has one row, and no other has any
abbrev pub LayersAreAsked : Network → List (Option ℕ) → List Layer → Type 0
LayersAreAsked net limits rows = (v i : ℕ) → v < net.nodes → count_by (λ r. (r.node == v) && (r.index == i)) rows ≡ (if has_layer net limits v i then 1 else 0)

-- up to each commodity's limit the layers of its from are layers
abbrev pub LayersBound : Network → List (Option ℕ) → List ℕ → List Layer → Type 0
LayersBound net limits lengths layers = (k n : ℕ) (commodity : Commodity) → slice_get net.commodities k ≡ Some commodity → limit_at limits k ≡ Some n
    → IsLayers net lengths (layer_in layers commodity.from) n
