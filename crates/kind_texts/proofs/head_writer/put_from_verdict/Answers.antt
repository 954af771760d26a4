use Rattle.std.proofs.Common.{◌∷◌, []}
use Rattle.cert_lines.specs.Spelling.{verdict_words, links_words, modules_words, counts_words}
use Rattle.cert_writer.proofs.TextPuts.{part_then, part_stops}
use Rattle.kind_texts.proofs.head_writer.put_from_verdict.Goals as goal

pub returns-in-Err : goal.returns-in-Err
returns-in-Err g c =
    let sheet = c.args.names.now in
    part_stops _ _ _ _ c.in-Err.fault (verdict_words c.args.closed ∷ links_words sheet ∷ modules_words sheet ∷ []) (counts_words sheet ∷ [])
    (rw (c.verdict_word.ensures, c.link_mode.ensures, c.module_mode.ensures) at c.in-Err.ensures)

pub returns : goal.returns
returns g c =
    let sheet = c.args.names.now in
    part_then _ _ _ _ _ _ c.put_counts.result (verdict_words c.args.closed ∷ links_words sheet ∷ modules_words sheet ∷ []) (counts_words sheet ∷ [])
    (rw (c.verdict_word.ensures, c.link_mode.ensures, c.module_mode.ensures) at c.in-Ok.ensures) c.put_counts.ensures
