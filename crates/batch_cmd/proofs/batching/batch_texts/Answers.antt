use Rattle.batch_cmd.proofs.Solved.{told_texts, told_no_rows}
use Rattle.batch_cmd.proofs.batching.batch_texts.Goals as goal

pub returns-in-Ok : goal.returns-in-Ok
returns-in-Ok g c = told_texts c.args.request.now c.args.net.now c.args.list.now c.in-Ok.rows _ _ c.batch_on.result c.in-Ok.ensures.rows c.batch_on.ensures

pub returns-in-Err : goal.returns-in-Err
returns-in-Err g c = told_no_rows c.args.request.now c.args.net.now c.args.list.now c.in-Err.outcome _ _ c.tell.result c.in-Err.ensures.rows c.tell.ensures
