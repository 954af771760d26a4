-- Walks and routings within limits of hops.
use Rattle.std.specs.Prelude.{◌≡◌, ℕ, ◌≤◌, ◌&&◌, ◌==◌, nat_le, Bool, false, List, All, length, Option, Some, None, MatchOption, slice_get, slice_index_or}
use Rattle.std.specs.Option.{option_map_or, is_none}
use Rattle.std.specs.List.{list_any, enumerate_from}
use Rattle.flow_model.specs.declared.net.Cell.{Cell}
use Rattle.flow_model.specs.declared.net.Commodity.{Commodity}
use Rattle.flow_model.specs.Network.{Network}
use Rattle.flow_model.specs.Walk.{PositiveWalk}
use Rattle.flow_model.specs.Routing.{Row, IsFeasible}
use Rattle.flow_model.specs.Bound.{walk_length}
use Rattle.mcf_limits.specs.declared.TheConstants.{MAX_HOPS}

-- the limit of the commodity of that number
abbrev pub limit_at : List (Option ℕ) → ℕ → Option ℕ
limit_at limits k = slice_index_or limits k None

-- the walk has at most as many cells as the limit, if there is one
abbrev pub IsWithin : Option ℕ → List ℕ → Type 0
IsWithin limit walk = MatchOption limit (Unit {0}) (λ n. length walk ≤ n)

-- a limit for each commodity, none over the greatest
pub record AreLimits (net : Network) (limits : List (Option ℕ)) : Type 0 where
  pub count : length limits ≡ length net.commodities
  pub small : All (λ limit. MatchOption limit (Unit {0}) (λ n. n ≤ MAX_HOPS)) limits

-- some commodity from v is without a limit
abbrev pub is_unlimited : Network → List (Option ℕ) → ℕ → Bool
is_unlimited net limits v = list_any (λ k. (k.1.from == v) && is_none (limit_at limits k.0)) (enumerate_from 0 net.commodities)

-- some commodity from v has a limit of at least i
abbrev pub has_layer : Network → List (Option ℕ) → ℕ → ℕ → Bool
has_layer net limits v i = list_any (λ k. (k.1.from == v) && option_map_or (nat_le i) (limit_at limits k.0) false) (enumerate_from 0 net.commodities)

-- the walk goes from the commodity's from to its to over positive cells, within its limit
pub record IsAllowed (net : Network) (limits : List (Option ℕ)) (k : ℕ) (walk : List ℕ) : Type 0 where
  pub commodity : Commodity
  pub at : slice_get net.commodities k ≡ Some commodity
  pub walks : PositiveWalk net.cells commodity.from commodity.to walk
  pub within : IsWithin (limit_at limits k) walk

-- it is allowed, and no other that is allowed is shorter
pub record IsLeastAllowed (net : Network) (limits : List (Option ℕ)) (lengths : List ℕ) (k : ℕ) (walk : List ℕ) : Type 0 where
  pub allowed : IsAllowed net limits k walk
  pub least : (other : List ℕ) → IsAllowed net limits k other → walk_length lengths walk ≤ walk_length lengths other

-- the walk goes from u to v over at most i positive cells
abbrev pub IsShortWalk : List Cell → ℕ → ℕ → ℕ → List ℕ → Type 0
IsShortWalk cells u v i walk = PositiveWalk cells u v walk × (length walk ≤ i)

-- the length of a least of the walks of which the fact holds; none where it holds of none
abbrev pub IsLeastOf : (List ℕ → Type 0) → List ℕ → Option ℕ → Type 0
IsLeastOf Is lengths d = MatchOption d
    ((walk : List ℕ) → Is walk → ⊥)
    (λ d. ((walk : List ℕ) × Is walk × (walk_length lengths walk ≡ d)) × ((walk : List ℕ) → Is walk → d ≤ walk_length lengths walk))

-- the rows' walks are within their commodities' limits
abbrev pub AreWithin : List (Option ℕ) → List Row → Type 0
AreWithin limits rows = All (λ row. IsWithin (limit_at limits row.commodity) row.walk) rows

-- the routing carries the fraction a / q of every amount within every capacity, over walks within the limits
pub record IsHopFeasible (net : Network) (limits : List (Option ℕ)) (rows : List Row) (a q : ℕ) : Type 0 where
  pub feasible : IsFeasible net rows a q
  pub within : AreWithin limits rows
