use Rattle.std.proofs.Common.{length, ◌≡◌, ◌+◌, ◌*◌}
use Rattle.std.specs.List.{sum_by}
use Rattle.dijkstra_paths.specs.Tree.{AreSameSlices, IsUnderWay}
use Rattle.dijkstra_paths.proofs.search.close_all.Given as goal

abbrev pub invariant-loop-count : goal.invariant-loop-count
invariant-loop-count l = record {
  state : IsUnderWay l.graph.cells l.lengths l.from (length l.front.dist.now) l.front l.count;
  nodes : length l.front.dist.now ≡ l.graph.nodes;
  keys : length l.front.keys.now ≡ length l.front.dist.now;
  same : AreSameSlices l.fn.front l.front;
}

abbrev pub decreases-loop-count : goal.decreases-loop-count
decreases-loop-count l = 2 * sum_by (λ d. d) l.front.dist.now + l.count
