-- Parts of the rows of a bound.
use Rattle.std.specs.Prelude.{◌≡◌, ℕ, List, All}
use Rattle.std.specs.Arc.{arc_value}
use Rattle.flow_model.specs.Network.{Network}
use Rattle.flow_model.specs.Lengths.{AreLengths}
use Rattle.dual_bound.specs.Rows.{HasDistances, IsRoom, demands_of}
use Rattle.flow_solver.specs.declared.parts.Part.{Part}

-- its lengths are of its cells, and each of its rows has room for a number for each node
abbrev pub CanBeFilled : Part → Type 0
CanBeFilled p = AreLengths p.graph.now.cells (arc_value p.lengths).items × All (IsRoom p.graph.now.nodes) p.rows.items

-- the second part has a row for each source of the first, with its targets, and where a row is filled, it is with distances under the
-- lengths of the first
abbrev pub IsFilled : Part → Part → Type 0
IsFilled p q = (demands_of q.rows.items ≡ demands_of p.rows.items) × All (HasDistances p.graph.now (arc_value p.lengths).items) q.rows.items

-- a part that can be filled, of a bound of these lengths on this network
abbrev pub IsPartOf : Network → List ℕ → Part → Type 0
IsPartOf net lengths p = CanBeFilled p × (p.graph.now ≡ net) × ((arc_value p.lengths).items ≡ lengths)
