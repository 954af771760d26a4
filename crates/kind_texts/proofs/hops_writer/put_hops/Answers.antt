use Rattle.std.specs.Prelude.{codes}
use Rattle.kind_texts.specs.Heads.{head_lines}
use Rattle.kind_texts.specs.HopsText.{from_figures}
use Rattle.cert_writer.proofs.TextPuts.{part_then, part_stops}
use Rattle.kind_texts.proofs.hops_writer.put_hops.Goals as goal

pub returns-in-Err : goal.returns-in-Err
returns-in-Err g c = part_stops _ _ _ _ c.in-Err.fault (head_lines (codes "mcf-hops") c.args.names.now c.args.proof.now.proof.closed) (from_figures c.args.names.now c.args.proof.now) c.in-Err.ensures

pub returns : goal.returns
returns g c = part_then _ _ _ _ _ _ c.put_from_figures.result (head_lines (codes "mcf-hops") c.args.names.now c.args.proof.now.proof.closed) (from_figures c.args.names.now c.args.proof.now) c.in-Ok.ensures c.put_from_figures.ensures
