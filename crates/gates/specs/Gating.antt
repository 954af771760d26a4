-- The gate of one commodity.
use Rattle.std.specs.Prelude.{◌≡◌, List}
use Rattle.flow_model.specs.declared.net.Cell.{Cell}
use Rattle.flow_model.specs.declared.net.Commodity.{Commodity}
use Rattle.flow_model.specs.Least.{IsJoined, IsCutOff}
use Rattle.gates.specs.Gates.{gate}

-- the cell is the commodity's gate: of its amount where it has a walk over positive cells, and of capacity 0 where it has none
pub record IsGate (over : List Cell) (k : Commodity) (cell : Cell) : Type 0 where
  pub joined : IsJoined over k.from k.to → cell ≡ gate k k.amount
  pub cut_off : IsCutOff over k.from k.to → cell ≡ gate k 0
