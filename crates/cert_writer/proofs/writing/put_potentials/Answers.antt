use Rattle.std.proofs.Common.{◌<◌, length, arith}
use Rattle.flow_paths.specs.DualRows.{no_potential}
use Rattle.cert_lines.specs.Spelling.{potential_words}
use Rattle.cert_writer.proofs.LinePuts.{one_line_on, line_stops}
use Rattle.cert_writer.proofs.writing.put_potentials.Goals as goal

pub returns-in-Err : goal.returns-in-Err
returns-in-Err g c =
    let lt : c.loop-row.row < length c.args.dual.now.potentials = omega (arith, c.rows-row-end.ensures) in
    line_stops (potential_words c.args.names.now) _ _ _ _ _ _ c.in-Err.fault c.args.dual.now.potentials c.loop-row.row no_potential lt c.loop-row.invariant c.in-Err.ensures

pub loop-row-preserved : goal.loop-row-preserved
loop-row-preserved g c =
    let lt : c.loop-row.row < length c.args.dual.now.potentials = omega (arith, c.rows-row-end.ensures) in
    one_line_on (potential_words c.args.names.now) _ _ _ _ _ _ c.args.dual.now.potentials c.loop-row.row no_potential lt c.loop-row.invariant c.in-Ok.ensures
