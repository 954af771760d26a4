-- A network: nodes by number, cells that join two of them, and commodities to be carried from one to another.
use Rattle.std.specs.Prelude.{ℕ, ◌<◌, ◌≤◌, ◌≢◌, List, length, All}
use Rattle.std.specs.List.{sum_by}
use Rattle.flow_model.specs.declared.net.Cell.{Cell}
use Rattle.flow_model.specs.declared.net.Commodity.{Commodity}
use Rattle.mcf_limits.specs.declared.TheConstants.{MAX_CELLS, MAX_DEMANDS, MAX_NODES, MAX_TOTAL, MAX_UNITS}

pub record Network : Type 0 where
  pub nodes : ℕ
  pub cells : List Cell
  pub commodities : List Commodity

-- the ends of a cell are nodes, and its capacity is within the limit
pub record IsCell (nodes : ℕ) (cell : Cell) : Type 0 where
  pub tail : cell.tail < nodes
  pub head : cell.head < nodes
  pub cap : cell.cap ≤ MAX_UNITS

-- a positive amount goes from one node to another
pub record IsCommodity (nodes : ℕ) (commodity : Commodity) : Type 0 where
  pub from : commodity.from < nodes
  pub to : commodity.to < nodes
  pub apart : commodity.from ≢ commodity.to
  pub positive : 1 ≤ commodity.amount
  pub amount : commodity.amount ≤ MAX_UNITS

-- the limits, with at least one commodity
pub record IsNetwork (net : Network) : Type 0 where
  pub nodes : net.nodes ≤ MAX_NODES
  pub cell_count : length net.cells ≤ MAX_CELLS
  pub commodity_count : length net.commodities ≤ MAX_DEMANDS
  pub some : 1 ≤ length net.commodities
  pub cells : All (IsCell net.nodes) net.cells
  pub commodities : All (IsCommodity net.nodes) net.commodities
  pub total : sum_by (λ k. k.amount) net.commodities ≤ MAX_TOTAL
