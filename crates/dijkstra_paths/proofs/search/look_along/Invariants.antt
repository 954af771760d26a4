use Rattle.std.proofs.Common.{length, ◌≡◌}
use Rattle.dijkstra_paths.specs.Tree.{IsTree}
use Rattle.dijkstra_paths.proofs.search.look_along.Given as goal

abbrev pub invariant-loop-kept : goal.invariant-loop-kept
invariant-loop-kept l = record {
  tree : IsTree l.graph.cells l.lengths l.from l.dist l.steps;
  nodes : length l.dist ≡ length l.fn.dist;
}
