use Rattle.cert_writer.specs.Text.{length_lines}
use Rattle.kind_texts.specs.HopsText.{from_potentials}
use Rattle.cert_writer.proofs.TextPuts.{part_then, part_stops}
use Rattle.kind_texts.proofs.hops_writer.put_from_lengths.Goals as goal

pub returns-in-Err : goal.returns-in-Err
returns-in-Err g c = part_stops _ _ _ _ c.in-Err.fault (length_lines c.args.names.now c.args.proof.now.proof) (from_potentials c.args.names.now c.args.proof.now) c.in-Err.ensures

pub returns : goal.returns
returns g c = part_then _ _ _ _ _ _ c.put_from_potentials.result (length_lines c.args.names.now c.args.proof.now.proof) (from_potentials c.args.names.now c.args.proof.now) c.in-Ok.ensures c.put_from_potentials.ensures
