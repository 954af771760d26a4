use Rattle.std.proofs.Common.{◌≡◌, map, take}
use Rattle.dijkstra_paths.specs.Arcs.{ends_of}
use Rattle.dijkstra_paths.proofs.graph.all_ends.Given as goal

abbrev pub invariant-loop-cell : goal.invariant-loop-cell
invariant-loop-cell l = l.ends.items ≡ map ends_of (take l.cell-index l.cells)
