use Rattle.std.proofs.Common.{◌≡◌, ◌<◌, length}
use Rattle.dijkstra_paths.proofs.tree.settle.Given as goal

abbrev pub invariant-loop-at : goal.invariant-loop-at
invariant-loop-at l = record { inside : l.at < length l.kept; same : length l.kept ≡ length l.fn.kept }

abbrev pub decreases-loop-at : goal.decreases-loop-at
decreases-loop-at l = l.at
