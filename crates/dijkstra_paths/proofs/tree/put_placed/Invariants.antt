use Rattle.std.proofs.Common.{◌≡◌, ◌≤◌, length}
use Rattle.dijkstra_paths.proofs.tree.put_placed.Given as goal

abbrev pub invariant-loop-at : goal.invariant-loop-at
invariant-loop-at l = record {
  behind : l.end ≤ l.at;
  same : length l.kept ≡ length l.fn.kept;
  inside : l.waiting ≤ length l.late;
}
