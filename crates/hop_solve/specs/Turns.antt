-- What turns have made.
use Rattle.std.specs.Prelude.{◌≡◌, ℕ, ◌+◌, ◌^◌, ◌<◌, ◌≤◌, List, [], ◌∷◌, ◌++◌, All, length, Option, MatchOption, slice_index, slice_index_or}
use Rattle.std.specs.List.{sum_by}
use Rattle.mcf_limits.specs.declared.TheConstants.{MAX_LENGTH}
use Rattle.flow_model.specs.declared.net.Commodity.{Commodity}
use Rattle.flow_model.specs.Network.{Network}
use Rattle.flow_model.specs.Walk.{times}
use Rattle.flow_model.specs.Routing.{Row}
use Rattle.flow_model.specs.Lengths.{lengths_of}
use Rattle.flow_paths.specs.Evaluation.{loads_of}
use Rattle.route_tally.specs.Tally.{IsCollected}
use Rattle.hop_paths.specs.Allowed.{IsAllowed, IsLeastAllowed}
use Rattle.hop_solve.specs.declared.finder.Finder.{Finder}
use Rattle.hop_solve.specs.declared.turns.Routed.{Routed}
use Rattle.hop_solve.specs.Run.{IsTurn, IsHopPhase}

-- what the rows carry in all
abbrev pub weight_of : List Row → ℕ
weight_of rows = sum_by (λ row. row.weight) rows

-- what all commodities have in all
abbrev pub amount_of : List Commodity → ℕ
amount_of commodities = sum_by (λ k. k.amount) commodities

-- the amount of the commodity of that number
abbrev pub amount_at : List Commodity → ℕ → ℕ
amount_at commodities k = (slice_index_or commodities k (record { from = 0; to = 0; amount = 0 })).amount

-- no cell stands twice in the walk
abbrev pub IsOnce : List ℕ → Type 0
IsOnce walk = (c : ℕ) → times c walk ≤ 1

-- behind these turns: the load of each cell, the table of lengths under them, and the rows that they come to
pub record IsRouted (net : Network) (before : List Row) (r : Routed) : Type 0 where
  pub loads : r.loads.items ≡ loads_of net before
  pub net_is : r.table.net ≡ net
  pub follows : r.table.loads ≡ r.loads.items
  pub rows : IsCollected before r.tally
  pub few : length r.tally ≤ length before
  pub once : All (λ row. IsOnce row.walk) before

-- the lengths under the loads
abbrev pub lengths_then : Routed → List ℕ
lengths_then r = lengths_of r.table.net r.table.setting r.table.loads

-- `count` more turns, of this weight together, are within the limits
pub record HasRoom (net : Network) (count weight : ℕ) (r : Routed) : Type 0 where
  pub before : List Row
  pub routed : IsRouted net before r
  pub few : length before + count < 2 ^ 32
  pub small : weight_of before + weight ≤ MAX_LENGTH

-- the path is a least of the commodity's allowed walks, over cells of the network, none of them twice
pub record IsFound (net : Network) (limits : List (Option ℕ)) (lengths : List ℕ) (k : ℕ) (path : List ℕ) : Type 0 where
  pub least : IsLeastAllowed net limits lengths k path
  pub cells : All (λ c. c < length net.cells) path
  pub once : IsOnce path

-- a path of the commodity, or none where it has no allowed walk
abbrev pub Finds : Network → List (Option ℕ) → List ℕ → ℕ → Option (List ℕ) → Type 0
Finds net limits lengths k found = MatchOption found ((walk : List ℕ) → IsAllowed net limits k walk → ⊥) (IsFound net limits lengths k)

-- behind these turns the commodity had its turn
pub record HasTurned (net : Network) (limits : List (Option ℕ)) (before : List Row) (k : ℕ) (old new : Routed) : Type 0 where
  pub turn : Row
  pub is : IsTurn net limits old.table.setting before k turn
  pub routed : IsRouted net (before ++ turn ∷ []) new

-- behind these turns each commodity had its turn
pub record HasPhase (net : Network) (limits : List (Option ℕ)) (before : List Row) (old new : Routed) : Type 0 where
  pub turns : List Row
  pub phase : IsHopPhase net limits old.table.setting before turns
  pub routed : IsRouted net (before ++ turns) new

-- room for searches in the network, with layers up to each source's last, and for a number for each node
pub record IsFinder (net : Network) (counts : List ℕ) (f : Finder) : Type 0 where
  pub plain : f.plain.nodes ≡ net.nodes
  pub layered : f.layered.nodes ≡ net.nodes
  pub layers : (v : ℕ) → v < net.nodes → slice_index counts v ≤ f.layered.layers + 1
  pub values : length f.values.items ≡ net.nodes
