use Rattle.std.proofs.Common.{◌≡◌, drop, map}
use Rattle.matrix_batch.specs.Faults.{bad_number}
use Rattle.matrix_batch.specs.ReadViews.{entry_view}
use Rattle.matrix_batch.proofs.faults.bad_number.Given as goal

abbrev pub invariant-loop-matrix : goal.invariant-loop-matrix
invariant-loop-matrix l = bad_number (map entry_view (drop l.matrix-index l.matrices)) ≡ bad_number (map entry_view l.matrices)
