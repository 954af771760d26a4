use Rattle.std.proofs.Common.{◌∷◌, [], map}
use Rattle.cert_writer.specs.Text.{end_line}
use Rattle.kind_texts.specs.HopsText.{layer_words}
use Rattle.cert_writer.proofs.TextPuts.{part_then, part_stops}
use Rattle.kind_texts.proofs.hops_writer.put_from_layers.Goals as goal

pub returns-in-Err : goal.returns-in-Err
returns-in-Err g c = part_stops _ _ _ _ c.in-Err.fault (map (layer_words c.args.names.now) c.args.proof.now.layers) (end_line ∷ []) c.in-Err.ensures

pub returns : goal.returns
returns g c = part_then _ _ _ _ _ _ c.put_end.result (map (layer_words c.args.names.now) c.args.proof.now.layers) (end_line ∷ []) c.in-Ok.ensures c.put_end.ensures
