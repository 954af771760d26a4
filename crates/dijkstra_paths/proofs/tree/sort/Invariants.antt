use Rattle.std.proofs.Common.{◌≡◌, length}
use Rattle.dijkstra_paths.proofs.tree.sort.Given as goal

abbrev pub invariant-loop-place : goal.invariant-loop-place
invariant-loop-place l = length l.kept ≡ length l.fn.kept
