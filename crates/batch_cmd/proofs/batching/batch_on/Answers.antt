use Rattle.matrix_batch.specs.Views.{batch_view}
use Rattle.batch_cmd.proofs.Solved.{told_batch, told_end}
use Rattle.batch_cmd.proofs.batching.batch_on.Goals as goal

pub returns-in-Ok : goal.returns-in-Ok
returns-in-Ok g c =
    told_batch c.args.request.now c.args.rows.now c.args.text.now (batch_view c.in-Ok.batch.items) _ _ c.tell_batch.result c.in-Ok.ensures.answer (rw c.deref.ensures.value at c.tell_batch.ensures)

pub returns-in-Err : goal.returns-in-Err
returns-in-Err g c =
    told_end c.args.request.now c.args.rows.now c.args.text.now c.in-Err.end _ _ c.tell.result c.in-Err.ensures.answer (rw c.outcome_of.ensures at c.tell.ensures)
