-- The paths of a phase.
use Rattle.std.specs.Prelude.{◌≡◌, ◌≢◌, ℕ, ◌<◌, List, [], All, length, Some, slice_get}
use Rattle.flow_model.specs.declared.net.Commodity.{Commodity}
use Rattle.flow_model.specs.Network.{Network}
use Rattle.flow_model.specs.Walk.{IsWalk, PositiveWalk}
use Rattle.flow_model.specs.Least.{AreDifferent}
use Rattle.flow_core.specs.Phase.{Routed}

-- the path goes from the commodity's from to its to, over different positive cells of the network, at least one and fewer than
-- there are nodes
pub record IsPathOf (net : Network) (k : ℕ) (path : List ℕ) : Type 0 where
  pub commodity : Commodity
  pub at : slice_get net.commodities k ≡ Some commodity
  pub walks : IsWalk net.cells commodity.from commodity.to path
  pub positive : PositiveWalk net.cells commodity.from commodity.to path
  pub some : path ≢ []
  pub cells : All (λ c. c < length net.cells) path
  pub different : AreDifferent path
  pub few : length path < net.nodes

-- each entry has a path of its commodity
abbrev pub HavePaths : Network → List Routed → Type 0
HavePaths net entries = (k : ℕ) (r : Routed) → slice_get entries k ≡ Some r → IsPathOf net k r.path
