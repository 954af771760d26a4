-- What a test needs of a path, to be allowed the next claim.
use Rattle.std.specs.Prelude.{◌≡◌, ℕ, List, Some, slice_get}
use Rattle.flow_model.specs.declared.net.Commodity.{Commodity}
use Rattle.flow_model.specs.declared.setting.Setting.{Setting}
use Rattle.flow_model.specs.Network.{Network}
use Rattle.flow_model.specs.Lengths.{lengths_of}
use Rattle.flow_model.specs.Least.{IsLeastWalk, AreDifferent}

-- the path is a least walk of the commodity of that number under the lengths of the loads, of different cells
pub record IsLeastPath (net : Network) (setting : Setting) (loads : List ℕ) (k : ℕ) (path : List ℕ) : Type 0 where
  pub least : (commodity : Commodity) → slice_get net.commodities k ≡ Some commodity → IsLeastWalk net.cells (lengths_of net setting loads) commodity.from commodity.to path
  pub different : AreDifferent path
