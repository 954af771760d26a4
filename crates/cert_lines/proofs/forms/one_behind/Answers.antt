use Rattle.std.proofs.Common.{◌∷◌, sym, ap, ◌∙◌}
use Rattle.text_lines.specs.Lines.{Line}
use Rattle.cert_lines.proofs.LineForms.{one_too_many}
use Rattle.cert_lines.proofs.forms.one_behind.Goals as goal

pub returns-in-Some-rest : goal.returns-in-Some-rest
returns-in-Some-rest c =
    let w = c.split_word.result.0.now in
    let a = c.split_word-2.result.0.now in
    let e1 = rw c.in-Some.is at c.split_word.ensures.words in
    let e2 = rw c.in-Some-rest.is at c.split_word-2.ensures.words in
    sym (one_too_many c.args.key.now _ w a c.in-Some-rest.field-0.now (e1 ∙ ap (λ (ws : Line). w ∷ ws) e2))
