-- A gate beside the cells for each commodity, and the price of a commodity: the length of a least walk and of its gate.
use Rattle.std.specs.Prelude.{◌≡◌, ℕ, ◌+◌, ◌≤◌, false, List, ◌++◌, length, map, Some, slice_get, slice_index}
use Rattle.std.specs.List.{range_with_len}
use Rattle.flow_model.specs.declared.net.Cell.{Cell}
use Rattle.flow_model.specs.declared.net.Commodity.{Commodity}
use Rattle.flow_model.specs.declared.setting.Setting.{Setting}
use Rattle.flow_model.specs.Network.{Network}
use Rattle.flow_model.specs.Routing.{Row, carried}
use Rattle.flow_model.specs.Lengths.{lengths_of}
use Rattle.flow_model.specs.Least.{IsJoined, IsCutOff, IsLeast}
use Rattle.flow_paths.specs.Evaluation.{loads_of}

-- the gate of a commodity, of that capacity
abbrev pub gate : Commodity → ℕ → Cell
gate k cap = record { tail = k.from; head = k.to; both = false; cap = cap }

-- a gate for each commodity: its capacity is the amount, or 0 where no walk over positive cells leads from the commodity's from to its to
pub record AreGates (net : Network) (gates : List Cell) : Type 0 where
  pub count : length gates ≡ length net.commodities
  pub joined : (k : ℕ) (commodity : Commodity) → slice_get net.commodities k ≡ Some commodity → IsJoined net.cells commodity.from commodity.to
      → slice_get gates k ≡ Some (gate commodity commodity.amount)
  pub cut_off : (k : ℕ) (commodity : Commodity) → slice_get net.commodities k ≡ Some commodity → IsCutOff net.cells commodity.from commodity.to
      → slice_get gates k ≡ Some (gate commodity 0)

-- the network with the gates behind its cells
abbrev pub gated : Network → List Cell → Network
gated net gates = record net { cells = net.cells ++ gates }

-- the loads of the cells, and behind them those of the gates: what is routed of each commodity
abbrev pub gated_loads : Network → List Row → List ℕ
gated_loads net turns = loads_of net turns ++ map (carried turns) (range_with_len 0 (length net.commodities))

-- the lengths of cells and gates behind these turns
abbrev pub gated_lengths : Network → List Cell → Setting → List Row → List ℕ
gated_lengths net gates setting turns = lengths_of (gated net gates) setting (gated_loads net turns)

-- what a commodity costs: the length of a least walk over positive cells, and that of its gate
pub record IsPrice (net : Network) (lengths : List ℕ) (k price : ℕ) : Type 0 where
  pub commodity : Commodity
  pub at : slice_get net.commodities k ≡ Some commodity
  pub distance : ℕ
  pub least : IsLeast net.cells lengths commodity.from commodity.to (Some distance)
  pub sum : price ≡ distance + slice_index lengths (length net.cells + k)

-- the price of some commodity, and no commodity has a smaller one
pub record IsLeastPrice (net : Network) (lengths : List ℕ) (price : ℕ) : Type 0 where
  pub some : (k : ℕ) × IsPrice net lengths k price
  pub least : (k other : ℕ) → IsPrice net lengths k other → price ≤ other
