use Rattle.cert_writer.specs.Text.{figure_lines}
use Rattle.kind_texts.specs.HopsText.{from_paths}
use Rattle.cert_writer.proofs.TextPuts.{part_then, part_stops}
use Rattle.kind_texts.proofs.hops_writer.put_from_figures.Goals as goal

pub returns-in-Err : goal.returns-in-Err
returns-in-Err g c = part_stops _ _ _ _ c.in-Err.fault (figure_lines c.args.proof.now.proof) (from_paths c.args.names.now c.args.proof.now) c.in-Err.ensures

pub returns : goal.returns
returns g c = part_then _ _ _ _ _ _ c.put_from_paths.result (figure_lines c.args.proof.now.proof) (from_paths c.args.names.now c.args.proof.now) c.in-Ok.ensures c.put_from_paths.ensures
