use Rattle.std.proofs.Common.{◌∷◌, []}
use Rattle.cert_lines.specs.Spelling.{counts_words}
use Rattle.cert_writer.specs.Text.{from_figures}
use Rattle.cert_writer.proofs.TextPuts.{part_then, part_stops}
use Rattle.cert_writer.proofs.certificate.put_from_counts.Goals as goal

pub returns-in-Err : goal.returns-in-Err
returns-in-Err g c = part_stops _ _ _ _ c.in-Err.fault (counts_words c.args.names.now ∷ []) (from_figures c.args.names.now c.args.proof.now) c.in-Err.ensures

pub returns : goal.returns
returns g c = part_then _ _ _ _ _ _ c.put_from_figures.result (counts_words c.args.names.now ∷ []) (from_figures c.args.names.now c.args.proof.now) c.in-Ok.ensures c.put_from_figures.ensures
