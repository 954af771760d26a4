use Rattle.std.proofs.Common.{◌∷◌, []}
use Rattle.std.specs.Prelude.{codes}
use Rattle.std.specs.Fmt.{decimal}
use Rattle.cert_lines.specs.Sheet.{cell_word}
use Rattle.flow_paths.specs.DualRows.{length_at}
use Rattle.cert_writer.proofs.LinePuts.{row_front_stops, row_more_stops, row_put}
use Rattle.cert_writer.proofs.writing.put_length.Goals as goal

pub returns-in-Err : goal.returns-in-Err
returns-in-Err g c =
    let row = length_at c.args.dual.now.lengths c.args.row in
    row_front_stops _ _ _ _ c.in-Err.fault (codes "length") (cell_word c.args.names.now row.cell ∷ []) (decimal row.value ∷ [])
    (rw c.length-cell.ensures.cell at c.in-Err.ensures)

pub returns-in-Err-put_numbers : goal.returns-in-Err-put_numbers
returns-in-Err-put_numbers g c =
    let row = length_at c.args.dual.now.lengths c.args.row in
    row_more_stops _ _ _ _ _ _ c.in-Err-put_numbers.fault (codes "length") (cell_word c.args.names.now row.cell ∷ []) (decimal row.value ∷ [])
    (rw c.length-cell.ensures.cell at c.in-Ok.ensures) (rw c.length-cell.ensures.value at c.in-Err-put_numbers.ensures)

pub returns : goal.returns
returns g c =
    let row = length_at c.args.dual.now.lengths c.args.row in
    row_put _ _ _ _ _ _ _ _ c.put.result (codes "length") (cell_word c.args.names.now row.cell ∷ []) (decimal row.value ∷ [])
    (rw c.length-cell.ensures.cell at c.in-Ok.ensures) (rw c.length-cell.ensures.value at c.in-Ok-put_numbers.ensures) c.put.ensures
