use Rattle.std.proofs.Common.{length, ◌≡◌}
use Rattle.dijkstra_paths.specs.Tree.{AreOpen}
use Rattle.dijkstra_paths.proofs.Opened.{AreTaken}
use Rattle.dijkstra_paths.proofs.search.open_nodes.Given as goal

abbrev pub invariant-loop-number : goal.invariant-loop-number
invariant-loop-number l = record {
  state : AreOpen l.dist l.order l.place l.count;
  keys : length l.keys ≡ length l.dist;
  taken : AreTaken l.graph.cells l.lengths l.dist l.place l.count l.number;
}
