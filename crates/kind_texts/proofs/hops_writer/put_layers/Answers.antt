use Rattle.std.proofs.Common.{◌<◌, length, arith}
use Rattle.hop_check.specs.LayerRows.{no_layer}
use Rattle.cert_writer.proofs.LinePuts.{one_line_on, line_stops}
use Rattle.kind_texts.specs.HopsText.{layer_words}
use Rattle.kind_texts.proofs.hops_writer.put_layers.Goals as goal

pub returns-in-Err : goal.returns-in-Err
returns-in-Err g c =
    let lt : c.loop-row.row < length c.args.layers.now = omega (arith, c.rows-row-end.ensures) in
    line_stops (layer_words c.args.names.now) _ _ _ _ _ _ c.in-Err.fault c.args.layers.now c.loop-row.row no_layer lt c.loop-row.invariant c.in-Err.ensures

pub loop-row-preserved : goal.loop-row-preserved
loop-row-preserved g c =
    let lt : c.loop-row.row < length c.args.layers.now = omega (arith, c.rows-row-end.ensures) in
    one_line_on (layer_words c.args.names.now) _ _ _ _ _ _ c.args.layers.now c.loop-row.row no_layer lt c.loop-row.invariant c.in-Ok.ensures
