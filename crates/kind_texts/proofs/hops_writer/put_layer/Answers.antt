use Rattle.std.proofs.Common.{◌∷◌, [], map}
use Rattle.std.specs.Prelude.{codes}
use Rattle.std.specs.Fmt.{decimal}
use Rattle.cert_lines.specs.Sheet.{node_word}
use Rattle.hop_check.specs.LayerRows.{layer_at}
use Rattle.cert_writer.proofs.LinePuts.{row_front_stops, row_more_stops, row_put}
use Rattle.kind_texts.proofs.hops_writer.put_layer.Goals as goal

pub returns-in-Err : goal.returns-in-Err
returns-in-Err g c =
    let row = layer_at c.args.layers.now c.args.row in
    row_front_stops _ _ _ _ c.in-Err.fault (codes "layer") (node_word c.args.names.now row.node ∷ decimal row.index ∷ []) (map decimal row.values)
    (rw (c.node_word.ensures, c.node.ensures, c.bytes.ensures, c.number-index.ensures, c.index.ensures) at c.in-Err.ensures)

pub returns-in-Err-put_numbers : goal.returns-in-Err-put_numbers
returns-in-Err-put_numbers g c =
    let row = layer_at c.args.layers.now c.args.row in
    row_more_stops _ _ _ _ _ _ c.in-Err-put_numbers.fault (codes "layer") (node_word c.args.names.now row.node ∷ decimal row.index ∷ []) (map decimal row.values)
    (rw (c.node_word.ensures, c.node.ensures, c.bytes.ensures, c.number-index.ensures, c.index.ensures) at c.in-Ok.ensures) (rw c.values.ensures.value at c.in-Err-put_numbers.ensures)

pub returns : goal.returns
returns g c =
    let row = layer_at c.args.layers.now c.args.row in
    row_put _ _ _ _ _ _ _ _ c.put.result (codes "layer") (node_word c.args.names.now row.node ∷ decimal row.index ∷ []) (map decimal row.values)
    (rw (c.node_word.ensures, c.node.ensures, c.bytes.ensures, c.number-index.ensures, c.index.ensures) at c.in-Ok.ensures) (rw c.values.ensures.value at c.in-Ok-put_numbers.ensures) c.put.ensures
