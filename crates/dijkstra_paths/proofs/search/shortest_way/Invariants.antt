use Rattle.std.proofs.Common.{◌≡◌, ◌⊎◌, get_or}
use Rattle.dijkstra_paths.specs.Tree.{IsWay}
use Rattle.dijkstra_paths.proofs.search.shortest_way.Given as goal

abbrev pub invariant-loop-arc : goal.invariant-loop-arc
invariant-loop-arc l = (l.way.long ≡ get_or l.dist l.kept.node 0) ⊎ IsWay l.graph.cells l.lengths l.dist l.kept.node l.way
