use Rattle.cert_writer.specs.Text.{opening_lines, from_counts}
use Rattle.cert_writer.proofs.TextPuts.{part_then, part_stops}
use Rattle.cert_writer.proofs.certificate.put_certificate.Goals as goal

pub returns-in-Err : goal.returns-in-Err
returns-in-Err g c = part_stops _ _ _ _ c.in-Err.fault (opening_lines c.args.names.now c.args.proof.now) (from_counts c.args.names.now c.args.proof.now) c.in-Err.ensures

pub returns : goal.returns
returns g c = part_then _ _ _ _ _ _ c.put_from_counts.result (opening_lines c.args.names.now c.args.proof.now) (from_counts c.args.names.now c.args.proof.now) c.in-Ok.ensures c.put_from_counts.ensures
