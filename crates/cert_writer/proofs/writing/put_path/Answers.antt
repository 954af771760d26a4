use Rattle.std.proofs.Common.{◌∷◌, [], map}
use Rattle.std.specs.Prelude.{codes}
use Rattle.std.specs.Fmt.{decimal}
use Rattle.cert_lines.specs.Sheet.{cell_word, commodity_word}
use Rattle.flow_paths.specs.PathRows.{row_at}
use Rattle.cert_writer.proofs.LinePuts.{row_front_stops, row_more_stops, row_put}
use Rattle.cert_writer.proofs.writing.put_path.Goals as goal

pub returns-in-Err : goal.returns-in-Err
returns-in-Err g c = row_front_stops _ _ _ _ c.in-Err.fault (codes "path") (commodity_word c.args.names.now (row_at c.args.paths.now c.args.row).commodity ∷ decimal (row_at c.args.paths.now c.args.row).weight ∷ []) (map (cell_word c.args.names.now) (row_at c.args.paths.now c.args.row).walk) (rw (c.commodity_word.ensures, c.commodity.ensures, c.bytes.ensures, c.number-weight.ensures, c.weight.ensures.value) at c.in-Err.ensures)

pub returns-in-Err-put_cells : goal.returns-in-Err-put_cells
returns-in-Err-put_cells g c = row_more_stops _ _ _ _ _ _ c.in-Err-put_cells.fault (codes "path") (commodity_word c.args.names.now (row_at c.args.paths.now c.args.row).commodity ∷ decimal (row_at c.args.paths.now c.args.row).weight ∷ []) (map (cell_word c.args.names.now) (row_at c.args.paths.now c.args.row).walk) (rw (c.commodity_word.ensures, c.commodity.ensures, c.bytes.ensures, c.number-weight.ensures, c.weight.ensures.value) at c.in-Ok.ensures) (rw c.path.ensures at c.in-Err-put_cells.ensures)

pub returns : goal.returns
returns g c = row_put _ _ _ _ _ _ _ _ c.put.result (codes "path") (commodity_word c.args.names.now (row_at c.args.paths.now c.args.row).commodity ∷ decimal (row_at c.args.paths.now c.args.row).weight ∷ []) (map (cell_word c.args.names.now) (row_at c.args.paths.now c.args.row).walk) (rw (c.commodity_word.ensures, c.commodity.ensures, c.bytes.ensures, c.number-weight.ensures, c.weight.ensures.value) at c.in-Ok.ensures) (rw c.path.ensures at c.in-Ok-put_cells.ensures) c.put.ensures
