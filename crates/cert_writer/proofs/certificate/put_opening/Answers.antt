use Rattle.std.proofs.Common.{◌∷◌, []}
use Rattle.std.specs.Prelude.{codes}
use Rattle.cert_lines.specs.Spelling.{verdict_words, links_words, modules_words}
use Rattle.cert_writer.proofs.TextPuts.{part_then, part_stops}
use Rattle.cert_writer.proofs.certificate.put_opening.Goals as goal

pub returns-in-Err : goal.returns-in-Err
returns-in-Err g c =
    let sheet = c.args.names.now in
    part_stops _ _ _ _ c.in-Err.fault ((codes "mcf-certificate" ∷ sheet.form ∷ []) ∷ [])
    (verdict_words c.args.proof.now.closed ∷ links_words sheet ∷ modules_words sheet ∷ []) (rw c.form.ensures at c.in-Err.ensures)

pub returns : goal.returns
returns g c =
    let sheet = c.args.names.now in
    part_then _ _ _ _ _ _ c.put_modes.result ((codes "mcf-certificate" ∷ sheet.form ∷ []) ∷ [])
    (verdict_words c.args.proof.now.closed ∷ links_words sheet ∷ modules_words sheet ∷ [])
    (rw c.form.ensures at c.in-Ok.ensures)
    (rw (c.verdict_word-verdict.ensures, c.link_mode.ensures, c.module_mode.ensures) at c.put_modes.ensures)
