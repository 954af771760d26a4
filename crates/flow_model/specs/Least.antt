-- Least walks over positive cells.
use Rattle.std.specs.Prelude.{◌≡◌, ◌≢◌, ℕ, ◌<◌, ◌≤◌, List, length, slice_index, Option, MatchOption, All, Any}
use Rattle.std.specs.Option.{option_map_or}
use Rattle.flow_model.specs.declared.net.Cell.{Cell}
use Rattle.flow_model.specs.declared.net.Commodity.{Commodity}
use Rattle.flow_model.specs.Network.{Network}
use Rattle.flow_model.specs.Walk.{PositiveWalk}
use Rattle.flow_model.specs.Bound.{walk_length}
use Rattle.mcf_limits.specs.declared.TheConstants.{MAX_LENGTH}

-- no walk over positive cells leads from u to v
abbrev pub IsCutOff : List Cell → ℕ → ℕ → Type 0
IsCutOff cells u v = (walk : List ℕ) → PositiveWalk cells u v walk → ⊥

-- some walk over positive cells leads from u to v
abbrev pub IsJoined : List Cell → ℕ → ℕ → Type 0
IsJoined cells u v = (walk : List ℕ) × PositiveWalk cells u v walk

-- the walk leads over positive cells from u to v, and no other such walk is shorter
pub record IsLeastWalk (cells : List Cell) (lengths : List ℕ) (u v : ℕ) (walk : List ℕ) : Type 0 where
  pub walks : PositiveWalk cells u v walk
  pub least : (other : List ℕ) → PositiveWalk cells u v other → walk_length lengths walk ≤ walk_length lengths other

-- the distance is that of a walk, and no walk is shorter; without a distance there is no walk
abbrev pub IsLeast : List Cell → List ℕ → ℕ → ℕ → Option ℕ → Type 0
IsLeast cells lengths from v d = MatchOption d
    ((walk : List ℕ) → PositiveWalk cells from v walk → ⊥)
    (λ d. ((walk : List ℕ) × PositiveWalk cells from v walk × (walk_length lengths walk ≡ d))
    × ((walk : List ℕ) → PositiveWalk cells from v walk → d ≤ walk_length lengths walk))

-- the distance as a potential: 2 ^ 62 where there is none
abbrev pub far_or : Option ℕ → ℕ
far_or d = option_map_or (λ d. d) d MAX_LENGTH

-- no two places have the same number
abbrev pub AreDifferent : List ℕ → Type 0
AreDifferent xs = (i j : ℕ) → i < j → j < length xs → slice_index xs i ≢ slice_index xs j

-- some commodity has no walk over positive cells
abbrev pub HasCut : Network → Type 0
HasCut net = Any (λ (k : Commodity). IsCutOff net.cells k.from k.to) net.commodities

-- each commodity has a walk over positive cells
abbrev pub HasNoCut : Network → Type 0
HasNoCut net = All (λ (k : Commodity). IsJoined net.cells k.from k.to) net.commodities
