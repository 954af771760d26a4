use Rattle.std.specs.Prelude.{codes}
use Rattle.kind_texts.specs.Heads.{head_lines}
use Rattle.kind_texts.specs.PartText.{from_totals}
use Rattle.cert_writer.proofs.TextPuts.{part_then, part_stops}
use Rattle.kind_texts.proofs.part_writer.put_part.Goals as goal

pub returns-in-Err : goal.returns-in-Err
returns-in-Err g c = part_stops _ _ _ _ c.in-Err.fault (head_lines (codes "mcf-throughput") c.args.names.now c.args.proof.now.closed) (from_totals c.args.names.now c.args.proof.now) c.in-Err.ensures

pub returns : goal.returns
returns g c = part_then _ _ _ _ _ _ c.put_from_totals.result (head_lines (codes "mcf-throughput") c.args.names.now c.args.proof.now.closed) (from_totals c.args.names.now c.args.proof.now) c.in-Ok.ensures c.put_from_totals.ensures
