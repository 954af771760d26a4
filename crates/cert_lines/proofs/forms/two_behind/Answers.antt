use Rattle.std.proofs.Common.{◌∷◌, sym, ap, ◌∙◌}
use Rattle.text_lines.specs.Lines.{Line}
use Rattle.cert_lines.proofs.LineForms.{two_too_many}
use Rattle.cert_lines.proofs.forms.two_behind.Goals as goal

pub returns-in-Some-rest-2 : goal.returns-in-Some-rest-2
returns-in-Some-rest-2 c =
    let w = c.split_word.result.0.now in
    let a = c.split_word-2.result.0.now in
    let b = c.split_word-3.result.0.now in
    let e1 = rw c.in-Some.is at c.split_word.ensures.words in
    let e2 = rw c.in-Some-rest.is at c.split_word-2.ensures.words in
    let e3 = rw c.in-Some-rest-2.is at c.split_word-3.ensures.words in
    sym (two_too_many c.args.key.now _ w a b c.in-Some-rest-2.field-0.now (e1 ∙ ap (λ (ws : Line). w ∷ ws) (e2 ∙ ap (λ (ws : Line). a ∷ ws) e3)))
