-- What a run has routed so far, and the lengths that follow it.
use Rattle.std.specs.Prelude.{◌≡◌, ℕ, ◌≤◌, min, max, List, [], ◌∷◌, ◌++◌, All, Option, length, map, slice_index_or}
use Rattle.std.specs.List.{range_with_len}
use Rattle.mcf_limits.specs.declared.TheConstants.{MAX_UNITS}
use Rattle.flow_model.specs.declared.net.Cell.{Cell}
use Rattle.flow_model.specs.declared.net.Commodity.{Commodity}
use Rattle.flow_model.specs.declared.setting.Setting.{Setting}
use Rattle.flow_model.specs.Network.{Network, IsNetwork}
use Rattle.flow_model.specs.Routing.{Row, carried}
use Rattle.flow_model.specs.Lengths.{greatest_exponent, least_capacity, lengths_at, lengths_of}
use Rattle.flow_model.specs.Least.{AreDifferent}
use Rattle.flow_paths.specs.Evaluation.{loads_of}
use Rattle.route_tally.specs.Tally.{IsCollected}
use Rattle.throughput.specs.declared.loaded.Loaded.{Loaded}
use Rattle.throughput.specs.declared.turns.Tops.{Tops}
use Rattle.throughput.specs.Partial.{total_of}
use Rattle.gates.specs.Gates.{AreGates, gated}
use Rattle.throughput.specs.Run.{IsPartTurn, routed}

-- a gate for each commodity of a network, and the least capacity of cells and gates
pub record IsPrepared (net : Network) (gates : List Cell) (least : ℕ) : Type 0 where
  pub network : IsNetwork net
  pub gates_are : AreGates net gates
  pub caps : All (λ (cell : Cell). cell.cap ≤ MAX_UNITS) gates
  pub least_is : least ≡ min (least_capacity net.cells) (least_capacity gates)

-- the loads are those of these rows, of which none has a cell twice
pub record IsLoaded (net : Network) (rows : List Row) (s : Loaded) : Type 0 where
  pub cells : s.cells.items ≡ loads_of net rows
  pub gates : s.gates.items ≡ map (carried rows) (range_with_len 0 (length net.commodities))
  pub total : s.total ≡ total_of rows
  pub tally : IsCollected rows s.tally
  pub paths : All (λ (row : Row). AreDifferent row.walk) rows

-- so for some rows
abbrev pub HasLoaded : Network → Loaded → Type 0
HasLoaded net s = (rows : List Row) × IsLoaded net rows s

-- the lengths of cells and gates under the loads
abbrev pub lengths_under : Network → List Cell → Setting → Loaded → List ℕ
lengths_under net gates setting s = lengths_of (gated net gates) setting (s.cells.items ++ s.gates.items)

-- the greatest exponents, and the lengths of cells, are those under the loads
pub record Follow (net : Network) (gates : List Cell) (least : ℕ) (s : Loaded) (tops : Tops) (lengths : List ℕ) : Type 0 where
  pub cells_top : tops.cells ≡ greatest_exponent tops.setting net.cells s.cells.items
  pub gates_top : tops.gates ≡ greatest_exponent tops.setting gates s.gates.items
  pub lengths_are : lengths ≡ lengths_at tops.setting (max tops.cells tops.gates) least net.cells s.cells.items

abbrev pub no_commodity : Commodity
no_commodity = record { from = 0; to = 0; amount = 0 }

-- the amount of commodity k
abbrev pub amount_of : Network → ℕ → ℕ
amount_of net k = (slice_index_or net.commodities k no_commodity).amount

-- commodity k had its turn, and the loads grew by what it routed
pub record HasTurned (net : Network) (gates : List Cell) (setting : Setting) (most k : ℕ) (old new : Loaded) : Type 0 where
  pub turn : Option Row
  pub is : IsPartTurn net (lengths_under net gates setting old) most k turn
  pub rows : (rows : List Row) → IsLoaded net rows old → IsLoaded net (rows ++ routed (turn ∷ [])) new
