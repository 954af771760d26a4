-- Layers of numbers: the i-th bounds walks of at most i cells.
use Rattle.std.specs.Prelude.{◌≡◌, ℕ, ◌+◌, ◌≤◌, ◌<◌, List, Some, slice_get, slice_index}
use Rattle.flow_model.specs.declared.net.Cell.{Cell}
use Rattle.flow_model.specs.Network.{Network}
use Rattle.flow_model.specs.Walk.{Goes}

-- layers 0 to m of numbers of nodes: over a cell a number rises by at most the cell's length from one layer to the next, and at a
-- node it never rises
pub record IsLayers (net : Network) (lengths : List ℕ) (p : ℕ → List ℕ) (m : ℕ) : Type 0 where
  pub goes : (i c : ℕ) (cell : Cell) (u v : ℕ) → i < m → slice_get net.cells c ≡ Some cell → Goes cell u v
      → slice_index (p (i + 1)) v ≤ slice_index (p i) u + slice_index lengths c
  pub falls : (i v : ℕ) → i < m → v < net.nodes → slice_index (p (i + 1)) v ≤ slice_index (p i) v
