use Rattle.batch_cmd.proofs.Written.{one_stops, one_wrote, all_written}
use Rattle.batch_cmd.proofs.writing.write_texts.Goals as goal

pub returns-in-Err : goal.returns-in-Err
returns-in-Err g c =
    one_stops _ _ _ c.in-Err.fault c.args.texts.now c.loop-text.text-index c.text-item.result c.loop-text-test.true c.text-item.is c.loop-text.invariant (rw c.as_slice.ensures.value at c.in-Err.ensures)

pub loop-text-preserved : goal.loop-text-preserved
loop-text-preserved g c =
    one_wrote _ _ _ c.args.texts.now c.loop-text.text-index c.text-item.result c.loop-text-test.true c.text-item.is c.loop-text.invariant (rw c.as_slice.ensures.value at c.in-Ok.ensures)

pub returns : goal.returns
returns g c = all_written _ _ c.args.texts.now c.loop-text.text-index c.loop-text-test.false c.loop-text.invariant
