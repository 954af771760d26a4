use Rattle.cert_writer.specs.Text.{path_lines}
use Rattle.kind_texts.specs.PartText.{from_lengths}
use Rattle.cert_writer.proofs.TextPuts.{part_then, part_stops}
use Rattle.kind_texts.proofs.part_writer.put_from_paths.Goals as goal

pub returns-in-Err : goal.returns-in-Err
returns-in-Err g c = part_stops _ _ _ _ c.in-Err.fault (path_lines c.args.names.now c.args.proof.now.routing) (from_lengths c.args.names.now c.args.proof.now) c.in-Err.ensures

pub returns : goal.returns
returns g c = part_then _ _ _ _ _ _ c.put_from_lengths.result (path_lines c.args.names.now c.args.proof.now.routing) (from_lengths c.args.names.now c.args.proof.now) c.in-Ok.ensures c.put_from_lengths.ensures
