use Rattle.std.proofs.Common.{◌≡◌, take}
use Rattle.std.specs.Prelude.{map}
use Rattle.matrix_batch.specs.Views.{batch_view}
use Rattle.batch_cmd.proofs.solving.nets_of.Given as goal

abbrev pub invariant-loop-matrix : goal.invariant-loop-matrix
invariant-loop-matrix l = map (λ n. n.now) l.nets.items ≡ map (λ m. m.net.net) (batch_view (take l.matrix-index l.batch))
