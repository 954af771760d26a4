-- The arcs of a network by node.
use Rattle.std.specs.Prelude.{◌≡◌, ℕ, zero, suc, ◌+◌, ◌≤◌, List, [], ◌∷◌, ◌++◌, length, slice_index, ◌==◌, ◌&&◌, if◌then◌else◌}
use Rattle.flow_model.specs.declared.net.Cell.{Cell}
use Rattle.dijkstra_paths.specs.declared.graph.Arc.{Arc}
use Rattle.dijkstra_paths.specs.declared.graph.CellEnds.{CellEnds}

-- the nodes that a cell joins; without capacity it joins its tail to itself
abbrev pub ends_of : Cell → CellEnds
ends_of cell = record { tail = cell.tail; head = if cell.cap == 0 then cell.tail else cell.head }

-- the arc over the cell of that number from u, if there is one
abbrev pub arcs_over : Cell → ℕ → ℕ → List Arc
arcs_over cell number u =
    if cell.cap == 0 then []
    else (if cell.tail == u then record { cell = number; to = cell.head } ∷ []
    else (if cell.both && (cell.head == u) then record { cell = number; to = cell.tail } ∷ [] else []))

-- the arcs from u over these cells, whose numbers begin with the given one
abbrev pub arcs_from : List Cell → ℕ → ℕ → List Arc
arcs_from [] number u = []
arcs_from (cell ∷ cells) number u = arcs_over cell number u ++ arcs_from cells (suc number) u

-- the arcs from the nodes below n, node after node
unfoldable pub arcs_below : List Cell → ℕ → List Arc
arcs_below cells zero = []
arcs_below cells (suc u) = arcs_below cells u ++ arcs_from cells 0 u

-- where each node's arcs begin, with the end after the last
pub record AreArcs (cells : List Cell) (nodes : ℕ) (first : List ℕ) (arcs : List Arc) : Type 0 where
  pub all : arcs ≡ arcs_below cells nodes
  pub count : length first ≡ nodes + 1
  pub begins : (u : ℕ) → u ≤ nodes → slice_index first u ≡ length (arcs_below cells u)
