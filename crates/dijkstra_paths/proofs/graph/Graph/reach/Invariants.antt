use Rattle.std.proofs.Common.{◌≡◌, ◌+◌, ◌*◌, ◌-◌, length}
use Rattle.dijkstra_paths.specs.Reach.{IsSpreading, unmarked}
use Rattle.dijkstra_paths.proofs.graph.Graph.reach.Given as goal

abbrev pub invariant-loop-next : goal.invariant-loop-next
invariant-loop-next l = record {
  count : length l.marks.items ≡ l.self.nodes;
  state : IsSpreading l.self.cells l.from l.marks.items l.found.items l.next;
}

abbrev pub decreases-loop-next : goal.decreases-loop-next
decreases-loop-next l = 2 * unmarked l.marks.items + (length l.found.items - l.next)
