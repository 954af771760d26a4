-- How groups are kept: chains of commodities of one source, and the members source by source.
use Rattle.std.specs.Prelude.{◌≡◌, ℕ, zero, suc, ◌+◌, ◌<◌, ◌≤◌, ◌==◌, if◌then◌else◌, List, [], ◌∷◌, ◌++◌, length, drop, map, slice_index}
use Rattle.flow_model.specs.declared.net.Commodity.{Commodity}
use Rattle.flow_model.specs.Network.{Network, IsNetwork}
use Rattle.flow_model.specs.Groups.{group_sources}

-- the source of the commodity of that number
abbrev pub from_at : List Commodity → ℕ → ℕ
from_at commodities k = slice_index (map (λ (c : Commodity). c.from) commodities) k

-- the number of the first of these commodities that starts at v, where they are numbered from i on; one past the last where none does
abbrev pub first_from : List Commodity → ℕ → ℕ → ℕ
first_from [] i v = i
first_from (c ∷ cs) i v = if c.from == v then i else first_from cs (suc i) v

-- the numbers of those of them that start at v
abbrev pub members_from : List Commodity → ℕ → ℕ → List ℕ
members_from [] i v = []
members_from (c ∷ cs) i v = if c.from == v then i ∷ members_from cs (suc i) v else members_from cs (suc i) v

-- the members of the nodes below n, node after node
unfoldable pub members_below : List Commodity → ℕ → List ℕ
members_below cs zero = []
members_below cs (suc v) = members_below cs v ++ members_from cs 0 v

-- the first commodity of each node, and after each commodity the next of the same source
pub record AreChains (cs : List Commodity) (first next : List ℕ) : Type 0 where
  pub nexts : length next ≡ length cs
  pub first_is : (v : ℕ) → v < length first → slice_index first v ≡ first_from cs 0 v
  pub next_is : (k : ℕ) → k < length cs → slice_index next k ≡ first_from (drop (k + 1) cs) (k + 1) (from_at cs k)

-- the sources, and the members node after node, with where each node's begin and the end after the last
pub record AreGroups (net : Network) (sources starts members : List ℕ) : Type 0 where
  pub net_is : IsNetwork net
  pub sources_are : sources ≡ group_sources net
  pub count : length starts ≡ net.nodes + 1
  pub begins : (v : ℕ) → v ≤ net.nodes → slice_index starts v ≡ length (members_below net.commodities v)
  pub all : members ≡ members_below net.commodities net.nodes
