-- What a search keeps: a tree of steps with distances.
use Rattle.std.specs.Prelude.{◌≡◌, ◌≢◌, ℕ, ◌+◌, ◌<◌, ◌≤◌, List, All, IsTrue, length, slice_index, slice_index_or}
use Rattle.flow_model.specs.declared.net.Cell.{Cell}
use Rattle.flow_model.specs.Walk.{PassesOver}
use Rattle.dijkstra_paths.specs.declared.graph.Arc.{Arc}
use Rattle.dijkstra_paths.specs.declared.search.Step.{Step}
use Rattle.dijkstra_paths.specs.declared.search.Front.{Front}
use Rattle.dijkstra_paths.specs.declared.search.FrontSlices.{FrontSlices}
use Rattle.dijkstra_paths.specs.declared.search.Way.{Way}
use Rattle.dijkstra_paths.specs.Heap.{AreInverse}
use Rattle.mcf_limits.specs.declared.TheConstants.{MAX_LENGTH}

abbrev pub step_at : List Step → ℕ → Step
step_at steps v = slice_index_or steps v (record { cell = 0; from = 0 })

-- the node was reached over the step's cell from the node before, no nearer than through that
pub record IsReached (cells : List Cell) (lengths dist : List ℕ) (step : Step) (v : ℕ) : Type 0 where
  pub passes : PassesOver cells step.cell step.from v
  pub before : step.from < length dist
  pub far : slice_index dist step.from + slice_index lengths step.cell ≤ slice_index dist v

-- its cell leads from the node to the one before, and it is as long as that one's distance so far and the cell together
pub record IsWay (cells : List Cell) (lengths dist : List ℕ) (node : ℕ) (way : Way) : Type 0 where
  pub back : PassesOver cells way.cell node way.from
  pub long : way.long ≡ slice_index dist way.from + slice_index lengths way.cell

-- each cell goes both ways
abbrev pub GoBothWays : List Cell → Type 0
GoBothWays cells = All (λ (cell : Cell). IsTrue cell.both) cells

-- every node with a distance below MAX_LENGTH but the first was reached
pub record IsTree (cells : List Cell) (lengths : List ℕ) (from : ℕ) (dist : List ℕ) (steps : List Step) : Type 0 where
  pub count : length steps ≡ length dist
  pub bound : (v : ℕ) → v < length dist → slice_index dist v ≤ MAX_LENGTH
  pub start : slice_index dist from ≡ 0
  pub reached : (v : ℕ) → v < length dist → v ≢ from → slice_index dist v < MAX_LENGTH → IsReached cells lengths dist (step_at steps v) v

-- no way on from the node is shorter than what is known
abbrev pub IsDone : List Cell → List ℕ → List ℕ → ℕ → Type 0
IsDone cells lengths dist u = (c x : ℕ) → PassesOver cells c u x → slice_index dist x ≤ slice_index dist u + slice_index lengths c

-- each list has an item for each node, and the order is one of all nodes
pub record AreLists (nodes : ℕ) (dist : List ℕ) (via : List Step) (order place keys : List ℕ) : Type 0 where
  pub dists : length dist ≡ nodes
  pub steps : length via ≡ nodes
  pub orders : length order ≡ nodes
  pub keyed : length keys ≡ nodes
  pub inverse : AreInverse order place

abbrev pub IsFront : ℕ → Front → Type 0
IsFront nodes front = AreLists nodes front.dist.items front.steps.items front.order.items front.place.items front.keys.items

-- `AreLists` for a `FrontSlices`
abbrev pub AreFront : ℕ → FrontSlices → Type 0
AreFront nodes front = AreLists nodes front.dist.now front.steps.now front.order.now front.place.now front.keys.now

-- every reached node that isn't open is done, but for one that is being worked on
pub record AreUnderWay (cells : List Cell) (lengths : List ℕ) (from node : ℕ) (dist : List ℕ) (steps : List Step) (order place : List ℕ) (count : ℕ) : Type 0 where
  pub tree : IsTree cells lengths from dist steps
  pub inverse : AreInverse order place
  pub nodes : length order ≡ length dist
  pub few : count ≤ length dist
  pub opened : (v : ℕ) → v < length dist → slice_index place v < count → slice_index dist v < MAX_LENGTH
  pub done : (u : ℕ) → u < length dist → u ≢ node → slice_index dist u < MAX_LENGTH → count ≤ slice_index place u → IsDone cells lengths dist u

-- so it is of the slices of a front
abbrev pub IsUnderWay : List Cell → List ℕ → ℕ → ℕ → FrontSlices → ℕ → Type 0
IsUnderWay cells lengths from node front count =
    AreUnderWay cells lengths from node front.dist.now front.steps.now front.order.now front.place.now count

-- the nodes with places below the count are open, and each of them is reached
pub record AreOpen (dist : List ℕ) (order place : List ℕ) (count : ℕ) : Type 0 where
  pub inverse : AreInverse order place
  pub nodes : length order ≡ length dist
  pub few : count ≤ length dist
  pub opened : (v : ℕ) → v < length dist → slice_index place v < count → slice_index dist v < MAX_LENGTH

-- they are slices of the same lists
abbrev pub AreSameSlices : FrontSlices → FrontSlices → Type 0
AreSameSlices old new =
    (new.dist.ghost_name ≡ old.dist.ghost_name) × (new.steps.ghost_name ≡ old.steps.ghost_name) × (new.order.ghost_name ≡ old.order.ghost_name)
    × (new.place.ghost_name ≡ old.place.ghost_name) × (new.keys.ghost_name ≡ old.keys.ghost_name)

abbrev pub arc_at : List Arc → ℕ → Arc
arc_at arcs k = slice_index_or arcs k (record { cell = 0; to = 0 })

-- none of these arcs from the node is shorter than what is known
abbrev pub ArcsDone : List ℕ → List ℕ → ℕ → List Arc → ℕ → Type 0
ArcsDone lengths dist node arcs count =
    (k : ℕ) → k < count → slice_index dist (arc_at arcs k).to ≤ slice_index dist node + slice_index lengths (arc_at arcs k).cell
