-- What a search found for commodities.
use Rattle.std.specs.Prelude.{◌≡◌, ℕ, ◌<◌, List, [], Some, All, length, map, slice_index}
use Rattle.std.specs.Option.{option_map_or}
use Rattle.flow_model.specs.declared.net.Cell.{Cell}
use Rattle.flow_model.specs.declared.net.Commodity.{Commodity}
use Rattle.flow_model.specs.Network.{Network}
use Rattle.flow_model.specs.Groups.{members_of}
use Rattle.flow_model.specs.Least.{AreDifferent, IsLeast}
use Rattle.dijkstra_paths.specs.Searched.{Searched, path_at, dist_at, IsPath}
use Rattle.phase_engine.specs.Routes.{Route}

-- the path to a node, or no cells
abbrev pub known_path : Searched → ℕ → List ℕ
known_path s v = option_map_or (λ p. p) (path_at s v) []

-- there is a path to the node, of different cells, fewer than nodes
pub record HasPath (cells : List Cell) (s : Searched) (v : ℕ) : Type 0 where
  pub found : path_at s v ≡ Some (known_path s v)
  pub inside : All (λ c. c < length cells) (known_path s v)
  pub different : AreDifferent (known_path s v)
  pub short : length (known_path s v) < s.nodes

-- where the commodity goes
abbrev pub to_at : Network → ℕ → ℕ
to_at net k = slice_index (map (λ (c : Commodity). c.to) net.commodities) k

-- the routes that the search found for these commodities
abbrev pub routes_to : Network → Searched → List ℕ → List Route
routes_to net s members = map (λ k. record { commodity = k; path = known_path s (to_at net k) }) members

-- the routes that the search found for a group
abbrev pub group_routes : Network → Searched → ℕ → List Route
group_routes net s g = routes_to net s (members_of net g)

-- the search was from this node, under these lengths
pub record IsSearch (cells : List Cell) (lengths : List ℕ) (from : ℕ) (s : Searched) : Type 0 where
  pub least : (v : ℕ) → v < s.nodes → IsLeast cells lengths from v (dist_at s v)
  pub paths : (v : ℕ) → v < s.nodes → IsPath cells lengths s.nodes from v (dist_at s v) (path_at s v)
