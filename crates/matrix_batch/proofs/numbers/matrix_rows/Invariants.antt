use Rattle.std.proofs.Common.{◌≡◌, drop, take, map}
use Rattle.matrix_batch.specs.Faults.{unknown_node}
use Rattle.matrix_batch.specs.Lists.{named_demands}
use Rattle.matrix_batch.specs.ListAnswer.{matrices_view}
use Rattle.matrix_batch.specs.ReadViews.{entry_view}
use Rattle.matrix_batch.proofs.numbers.matrix_rows.Given as goal

abbrev pub invariant-loop-matrix : goal.invariant-loop-matrix
invariant-loop-matrix l =
    (unknown_node l.raw (map entry_view (drop l.matrix-index l.matrices)) ≡ unknown_node l.raw (map entry_view l.matrices))
    × (matrices_view l.read ≡ map (named_demands l.raw) (map entry_view (take l.matrix-index l.matrices)))
