use Rattle.std.proofs.Common.{◌<◌, length, arith}
use Rattle.flow_paths.specs.DualRows.{no_length}
use Rattle.cert_lines.specs.Spelling.{length_words}
use Rattle.cert_writer.proofs.LinePuts.{one_line_on, line_stops}
use Rattle.cert_writer.proofs.writing.put_lengths.Goals as goal

pub returns-in-Err : goal.returns-in-Err
returns-in-Err g c =
    let lt : c.loop-row.row < length c.args.dual.now.lengths = omega (arith, c.lengths-row-end.ensures) in
    line_stops (length_words c.args.names.now) _ _ _ _ _ _ c.in-Err.fault c.args.dual.now.lengths c.loop-row.row no_length lt c.loop-row.invariant c.in-Err.ensures

pub loop-row-preserved : goal.loop-row-preserved
loop-row-preserved g c =
    let lt : c.loop-row.row < length c.args.dual.now.lengths = omega (arith, c.lengths-row-end.ensures) in
    one_line_on (length_words c.args.names.now) _ _ _ _ _ _ c.args.dual.now.lengths c.loop-row.row no_length lt c.loop-row.invariant c.in-Ok.ensures
