use Rattle.std.proofs.Common.{◌≡◌, ◌++◌, drop}
use Rattle.dijkstra_paths.specs.Arcs.{arcs_from}
use Rattle.dijkstra_paths.proofs.graph.append_arcs.Given as goal

abbrev pub invariant-loop-number : goal.invariant-loop-number
invariant-loop-number l = l.arcs.items ++ arcs_from (drop l.number l.cells) l.number l.from ≡ l.fn.arcs.items ++ arcs_from l.cells 0 l.from
