use Rattle.std.proofs.Common.{Result, subst, sym}
use Rattle.sndlib_grammar.proofs.WordLaws.{text_words}
use Rattle.sndlib_grammar.specs.Rows.{NetRows}
use Rattle.sndlib_grammar.specs.declared.refusal.NetRefusal.{NetRefusal}
use Rattle.sndlib_read.specs.Steps.{Gives}
use Rattle.sndlib_read.specs.Views.{kept_view}
use Rattle.sndlib_read.proofs.Whole.{answer_is}
use Rattle.sndlib_read.proofs.judge.rows_of_text.Goals as goal

pub judge-requires : goal.judge-requires
judge-requires c =
    let h = c.in-Ok.ensures in
    record { found = h.found; words = text_words c.args.text.now h.found h.reads; same = h.same }

pub returns-in-Ok : goal.returns-in-Ok
returns-in-Ok c =
    subst (λ (r : Result NetRows NetRefusal). Gives (λ (n : NetRows). n) c.judge.result r) (sym (answer_is c.args.text.now c.end_line-end.result (kept_view c.in-Ok.rows) c.end_line-end.ensures c.in-Ok.ensures)) c.judge.ensures
