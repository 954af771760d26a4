use Rattle.matrix_batch.specs.Views.{batch_view}
use Rattle.batch_cmd.specs.Asked.{batch_options}
use Rattle.batch_cmd.specs.Batch.{batch_asked_of}
use Rattle.batch_cmd.proofs.Solved.{can_be_written, told_solves}
use Rattle.batch_cmd.proofs.batching.tell_batch.Goals as goal

pub write_solves-requires-after_bounds : goal.write_solves-requires-after_bounds
write_solves-requires-after_bounds g c κs within =
    let batch = batch_view c.args.batch.now in
    rw c.deref.ensures.value (can_be_written c.args.request.now.net (batch_options batch (batch_asked_of c.args.request.now)) batch c.in-Ok.many.items c.requires.own c.in-Ok.ensures.solved)

pub returns-in-Ok : goal.returns-in-Ok
returns-in-Ok g c =
    told_solves c.args.request.now.net (batch_asked_of c.args.request.now) (batch_view c.args.batch.now) c.in-Ok.many.items _ _ c.write_solves.result c.in-Ok.ensures (rw c.deref.ensures.value at c.write_solves.ensures)
