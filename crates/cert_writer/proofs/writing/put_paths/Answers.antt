use Rattle.std.proofs.Common.{◌<◌, length, arith}
use Rattle.flow_paths.specs.PathRows.{no_row}
use Rattle.cert_lines.specs.Spelling.{path_words}
use Rattle.cert_writer.proofs.LinePuts.{one_line_on, line_stops}
use Rattle.cert_writer.proofs.writing.put_paths.Goals as goal

pub returns-in-Err : goal.returns-in-Err
returns-in-Err g c =
    let lt : c.loop-row.row < length c.args.paths.now = omega (arith, c.rows-row-end.ensures) in
    line_stops (path_words c.args.names.now) _ _ _ _ _ _ c.in-Err.fault c.args.paths.now c.loop-row.row no_row lt c.loop-row.invariant c.in-Err.ensures

pub loop-row-preserved : goal.loop-row-preserved
loop-row-preserved g c =
    let lt : c.loop-row.row < length c.args.paths.now = omega (arith, c.rows-row-end.ensures) in
    one_line_on (path_words c.args.names.now) _ _ _ _ _ _ c.args.paths.now c.loop-row.row no_row lt c.loop-row.invariant c.in-Ok.ensures
