use Rattle.std.proofs.Common.{◌∷◌, []}
use Rattle.cert_writer.specs.Text.{potential_lines, end_line}
use Rattle.cert_writer.proofs.TextPuts.{part_then, part_stops}
use Rattle.cert_writer.proofs.certificate.put_from_potentials.Goals as goal

pub returns-in-Err : goal.returns-in-Err
returns-in-Err g c = part_stops _ _ _ _ c.in-Err.fault (potential_lines c.args.names.now c.args.proof.now) (end_line ∷ []) c.in-Err.ensures

pub returns : goal.returns
returns g c = part_then _ _ _ _ _ _ c.put_end.result (potential_lines c.args.names.now c.args.proof.now) (end_line ∷ []) c.in-Ok.ensures c.put_end.ensures
