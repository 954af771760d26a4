use Rattle.std.proofs.Common.{◌∷◌, [], map}
use Rattle.cert_writer.specs.Text.{end_line}
use Rattle.cert_lines.specs.Spelling.{potential_words}
use Rattle.cert_writer.proofs.TextPuts.{part_then, part_stops}
use Rattle.kind_texts.proofs.part_writer.put_from_potentials.Goals as goal

pub returns-in-Err : goal.returns-in-Err
returns-in-Err g c = part_stops _ _ _ _ c.in-Err.fault (map (potential_words c.args.names.now) c.args.proof.now.bound.dual.potentials) (end_line ∷ []) c.in-Err.ensures

pub returns : goal.returns
returns g c = part_then _ _ _ _ _ _ c.put_end.result (map (potential_words c.args.names.now) c.args.proof.now.bound.dual.potentials) (end_line ∷ []) c.in-Ok.ensures c.put_end.ensures
