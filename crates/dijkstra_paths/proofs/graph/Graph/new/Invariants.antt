use Rattle.std.proofs.Common.{◌≡◌, ◌<◌, ℕ, length, get_or}
use Rattle.dijkstra_paths.specs.Arcs.{arcs_below}
use Rattle.dijkstra_paths.proofs.graph.Graph.new.Given as goal

abbrev pub invariant-loop-from : goal.invariant-loop-from
invariant-loop-from l = record {
  all : l.arcs.items ≡ arcs_below l.cells l.from;
  count : length l.first.items ≡ l.from;
  first : (u : ℕ) → u < l.from → get_or l.first.items u 0 ≡ length (arcs_below l.cells u);
}
