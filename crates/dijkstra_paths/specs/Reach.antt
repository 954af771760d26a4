-- What is reached over positive cells.
use Rattle.std.specs.Prelude.{◌≡◌, ◌≢◌, ◌⊎◌, ◌↔◌, ℕ, suc, ◌+◌, ◌*◌, ◌<◌, ◌≤◌, List, [], ◌∷◌, Bool, true, false, IsTrue, length, slice_index, slice_index_or, slice_get, Some}
use Rattle.std.specs.declared.vec.Vec.{Vec}
use Rattle.std.specs.declared.alloc.Global.{Global}
use Rattle.flow_model.specs.declared.net.Cell.{Cell}
use Rattle.flow_model.specs.declared.net.Commodity.{Commodity}
use Rattle.flow_model.specs.Network.{Network}
use Rattle.flow_model.specs.Walk.{PassesOver}
use Rattle.flow_model.specs.Least.{IsCutOff, IsJoined}
use Rattle.dijkstra_paths.specs.declared.graph.Arc.{Arc}

abbrev pub mark_at : List Bool → ℕ → Bool
mark_at marks v = slice_index_or marks v false

abbrev pub end_at : List Arc → ℕ → ℕ
end_at arcs k = (slice_index_or arcs k (record { cell = 0; to = 0 })).to

-- each of these cells has a capacity
abbrev pub ArePositive : List Cell → List ℕ → Type 0
ArePositive cells walk = (k : ℕ) (cell : Cell) → k < length walk → slice_get cells (slice_index walk k) ≡ Some cell → 1 ≤ cell.cap

-- a node is marked exactly where a walk over positive cells leads to it
pub record AreReached (cells : List Cell) (from : ℕ) (marks : List Bool) : Type 0 where
  pub each : (v : ℕ) → v < length marks → IsTrue (mark_at marks v) ↔ IsJoined cells from v

-- the commodity of that number has no walk over positive cells, and each one before it has
pub record IsFirstCut (net : Network) (k : ℕ) : Type 0 where
  pub inside : k < length net.commodities
  pub cut : (commodity : Commodity) → slice_get net.commodities k ≡ Some commodity → IsCutOff net.cells commodity.from commodity.to
  pub before : (j : ℕ) (commodity : Commodity) → j < k → slice_get net.commodities j ≡ Some commodity → IsJoined net.cells commodity.from commodity.to

-- how many nodes are not marked
abbrev pub unmarked : List Bool → ℕ
unmarked [] = 0
unmarked (true ∷ marks) = unmarked marks
unmarked (false ∷ marks) = suc (unmarked marks)

-- the ends of arcs were marked, and those that were not marked before are at the end of the list of nodes found
pub record MarksEnds (arcs : List Arc) (old new : List Bool) (before after : List ℕ) : Type 0 where
  pub size : length new ≡ length old
  pub longer : length before ≤ length after
  pub kept : (v : ℕ) → IsTrue (mark_at old v) → IsTrue (mark_at new v)
  pub only : (v : ℕ) → IsTrue (mark_at new v) → IsTrue (mark_at old v) ⊎ ((k : ℕ) × (k < length arcs) × (end_at arcs k ≡ v))
  pub fresh : (v : ℕ) → IsTrue (mark_at new v) → IsTrue (mark_at old v) ⊎ ((i : ℕ) × (length before ≤ i) × (i < length after) × (slice_index after i ≡ v))
  pub front : (i : ℕ) → i < length before → slice_index after i ≡ slice_index before i
  pub found : (i : ℕ) → length before ≤ i → i < length after → (slice_index after i < length new) × IsTrue (mark_at new (slice_index after i))
  pub work : 2 * unmarked new + length after ≤ 2 * unmarked old + length before

-- no positive cell leads from the node to one that is not marked
abbrev pub IsPassed : List Cell → List Bool → ℕ → Type 0
IsPassed cells marks u = (c x : ℕ) → PassesOver cells c u x → IsTrue (mark_at marks x)

-- the marked nodes are reached, and one that was not gone on from waits in the list
pub record IsSpreading (cells : List Cell) (from : ℕ) (marks : List Bool) (found : List ℕ) (next : ℕ) : Type 0 where
  pub inside : (i : ℕ) → i < length found → (slice_index found i < length marks) × IsTrue (mark_at marks (slice_index found i))
  pub joined : (v : ℕ) → IsTrue (mark_at marks v) → IsJoined cells from v
  pub first : IsTrue (mark_at marks from)
  pub waits : (u : ℕ) → IsTrue (mark_at marks u) → IsPassed cells marks u ⊎ ((i : ℕ) × (next ≤ i) × (i < length found) × (slice_index found i ≡ u))

-- the marks of a node that was searched from; none where it was not
abbrev pub IsRow : Network → ℕ → List Bool → Type 0
IsRow net from marks = length marks ≢ 0 → (length marks ≡ net.nodes) × AreReached net.cells from marks

-- a row for each node
pub record AreRows (net : Network) (rows : List (Vec Bool Global)) : Type 0 where
  pub count : length rows ≡ net.nodes
  pub each : (u : ℕ) (row : Vec Bool Global) → u < length rows → IsRow net u (slice_index_or rows u row).items
