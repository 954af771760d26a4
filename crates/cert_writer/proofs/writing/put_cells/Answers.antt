use Rattle.text_lines.proofs.Joining.{one_word_on, word_stops}
use Rattle.cert_lines.specs.Sheet.{cell_word}
use Rattle.cert_writer.proofs.writing.put_cells.Goals as goal

pub returns-in-Err : goal.returns-in-Err
returns-in-Err g c = word_stops (cell_word c.args.names.now) _ _ _ _ _ _ c.in-Err.fault c.args.cells.now c.loop-cell.cell-index 0 c.loop-cell-test.true c.loop-cell.invariant c.in-Err.ensures

pub loop-cell-preserved : goal.loop-cell-preserved
loop-cell-preserved g c = one_word_on (cell_word c.args.names.now) _ _ _ _ _ _ c.args.cells.now c.loop-cell.cell-index 0 c.loop-cell-test.true c.loop-cell.invariant c.in-Ok.ensures
