-- Routings: weighted walks, what they carry and how they load each cell.
use Rattle.std.specs.Prelude.{◌≡◌, ℕ, ◌*◌, ◌≤◌, List, All, map, Some, slice_get, ◌==◌, if◌then◌else◌}
use Rattle.std.specs.List.{sum_by}
use Rattle.flow_model.specs.declared.net.Cell.{Cell}
use Rattle.flow_model.specs.declared.net.Commodity.{Commodity}
use Rattle.flow_model.specs.Network.{Network}
use Rattle.flow_model.specs.Walk.{IsWalk, times}

-- a weight of a commodity along a walk
pub record Row : Type 0 where
  pub commodity : ℕ
  pub walk : List ℕ
  pub weight : ℕ

-- the weights of the commodity's rows
abbrev pub carried : List Row → ℕ → ℕ
carried rows k = sum_by (λ r. if r.commodity == k then r.weight else 0) rows

-- the weights of all rows, each as often as its walk has the cell
abbrev pub load_of : List Row → ℕ → ℕ
load_of rows c = sum_by (λ r. r.weight * times c r.walk) rows

-- the row's walk goes from its commodity's from to its to
abbrev pub Joins : Network → Row → Type 0
Joins net row = (k : Commodity) × (slice_get net.commodities row.commodity ≡ Some k) × IsWalk net.cells k.from k.to row.walk

-- the routing carries the fraction a / q of every amount within every capacity
pub record IsFeasible (net : Network) (rows : List Row) (a q : ℕ) : Type 0 where
  pub parts : 1 ≤ q
  pub walks : All (Joins net) rows
  pub carried : (k : ℕ) (commodity : Commodity) → slice_get net.commodities k ≡ Some commodity → carried rows k ≡ a * commodity.amount
  pub within : (c : ℕ) (cell : Cell) → slice_get net.cells c ≡ Some cell → load_of rows c ≤ q * cell.cap

-- the walks with each weight times a factor
abbrev pub scaled : ℕ → List Row → List Row
scaled factor rows = map (λ r. record { commodity = r.commodity; walk = r.walk; weight = factor * r.weight }) rows
