use Rattle.std.proofs.Common.{ℕ, ◌+◌, ◌<◌, ◌≤◌, get_or}
use Rattle.dijkstra_paths.specs.Tree.{arc_at}
use Rattle.hop_paths.specs.Searching.{IsNext, IsSameBelow}
use Rattle.hop_paths.proofs.search.go_on.Given as goal

abbrev pub invariant-loop-arc : goal.invariant-loop-arc
invariant-loop-arc l = record {
  state : IsNext l.graph.cells l.lengths l.graph.nodes l.dist l.steps l.base;
  done : (k : ℕ) → k < l.arc-index → get_or l.dist (l.base + l.graph.nodes + (arc_at l.arcs k).to) 0 ≤ get_or l.fn.dist (l.base + l.node) 0 + get_or l.lengths (arc_at l.arcs k).cell 0;
  falls : (k : ℕ) → get_or l.dist k 0 ≤ get_or l.fn.dist k 0;
  front : IsSameBelow (l.base + l.graph.nodes) l.fn.dist l.dist l.fn.steps l.steps;
}
