use Rattle.std.proofs.Common.{◌≡◌, ◌*◌, ◌≤◌, take}
use Rattle.mcf_limits.specs.declared.TheConstants.{MAX_DEMANDS}
use Rattle.matrix_batch.specs.Batch.{batch_commodities}
use Rattle.matrix_batch.specs.Views.{batch_view}
use Rattle.batch_cmd.proofs.asked.count_all.Given as goal

abbrev pub invariant-loop-matrix : goal.invariant-loop-matrix
invariant-loop-matrix l =
    (l.total ≡ batch_commodities (batch_view (take l.matrix-index l.batch))) × (l.matrix-index ≤ l.total) × (l.total ≤ MAX_DEMANDS * l.matrix-index)
