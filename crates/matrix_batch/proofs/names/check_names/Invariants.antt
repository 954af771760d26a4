use Rattle.std.proofs.Common.{◌≡◌, [], map, drop}
use Rattle.sndlib_rows.specs.Names.{names_of}
use Rattle.matrix_batch.specs.Faults.{repeated}
use Rattle.matrix_batch.specs.ReadViews.{entry_view}
use Rattle.matrix_batch.proofs.names.check_names.Given as goal

abbrev pub invariant-loop-matrix : goal.invariant-loop-matrix
invariant-loop-matrix l = repeated (names_of l.names) (map entry_view (drop l.matrix-index l.matrices)) ≡ repeated [] (map entry_view l.matrices)
