-- A link with another capacity: all its cells.
use Rattle.std.specs.Prelude.{ℕ, ◌==◌, List, map, if◌then◌else◌}
use Rattle.std.specs.List.{enumerate_from}
use Rattle.flow_model.specs.declared.net.Cell.{Cell}
use Rattle.flow_model.specs.Network.{Network}
use Rattle.flow_paths.specs.Evaluation.{edited}
use Rattle.unit_scale.specs.declared.modes.LinkMode.{LinkMode}
use Rattle.unit_scale.specs.Names.{name_of}

-- these capacities of cells, with this one for each cell of the link
abbrev pub with_link : LinkMode → List ℕ → ℕ → ℕ → List ℕ
with_link mode caps link cap =
    map (λ c. if (name_of mode c.0).link == link then cap else c.1) (enumerate_from 0 caps)

-- the capacities of the network's cells
abbrev pub caps_of : Network → List ℕ
caps_of net = map (λ (cell : Cell). cell.cap) net.cells

-- the network with the cells of the link at capacity 0
abbrev pub closed : LinkMode → Network → ℕ → Network
closed mode net link = edited net (with_link mode (caps_of net) link 0)
