use Rattle.std.proofs.Common.{◌≡◌, drop}
use Rattle.std.specs.Prelude.{map}
use Rattle.matrix_batch.specs.ListAnswer.{matrix_view as read_view}
use Rattle.matrix_batch.specs.Scaling.{scaled_all, none_yet}
use Rattle.matrix_batch.specs.Steps.{sofar_view}
use Rattle.matrix_batch.proofs.scaling.scale_all.Given as goal

abbrev pub invariant-loop-list : goal.invariant-loop-list
invariant-loop-list l =
    scaled_all l.raw l.options (map read_view (drop l.list-index l.lists)) (sofar_view l.sofar) ≡ scaled_all l.raw l.options (map read_view l.lists) none_yet
