use Rattle.std.proofs.Common.{◌<◌, ℕ}
use Rattle.std.specs.Prelude.{IsTrue}
use Rattle.dijkstra_paths.specs.Reach.{MarksEnds, end_at, mark_at}
use Rattle.dijkstra_paths.proofs.reach.mark_ends.Given as goal

abbrev pub invariant-loop-arc : goal.invariant-loop-arc
invariant-loop-arc l = record {
  marks : MarksEnds l.arcs l.fn.marks l.marks l.fn.found.items l.found.items;
  all : (k : ℕ) → k < l.arc-index → IsTrue (mark_at l.marks (end_at l.arcs k));
}
