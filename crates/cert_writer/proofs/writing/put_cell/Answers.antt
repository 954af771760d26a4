use Rattle.cert_lines.specs.Sheet.{cell_word, cell_sign, cell_id}
use Rattle.cert_lines.proofs.Looked.{whole_word}
use Rattle.cert_writer.proofs.LinePuts.{joined_put, joined_stops}
use Rattle.cert_writer.proofs.writing.put_cell.Goals as goal

pub returns-in-Err : goal.returns-in-Err
returns-in-Err g c =
    let sheet = c.args.names.now in
    joined_stops _ _ _ _ c.in-Err.fault (cell_sign sheet c.args.cell) (cell_id sheet c.args.cell) (cell_word sheet c.args.cell) (whole_word sheet c.args.cell) (rw c.cell_sign.ensures at c.in-Err.ensures)

pub returns : goal.returns
returns g c =
    let sheet = c.args.names.now in
    joined_put _ _ _ _ _ _ c.put.result (cell_sign sheet c.args.cell) c.cell_id.result.now (cell_word sheet c.args.cell) c.cell_id.ensures.word (rw c.cell_sign.ensures at c.in-Ok.ensures) c.put.ensures
