use Rattle.std.proofs.lemmas.Bool.{ne_eqb}
use Rattle.std.proofs.Common.{eq-eqb, sym, ◌∙◌, arith}
use Rattle.sndlib_grammar.proofs.Steps.{skip_comment}
use Rattle.sndlib_grammar.proofs.bytes.skip_one.Goals as goal

pub returns-then-b-eq35 : goal.returns-then-b-eq35
returns-then-b-eq35 c =
    skip_comment c.args.text.now c.args.at c.args.line c.comment_end.result (omega arith) c.requires.lines (ne_eqb _ _ c.if-b-eq10.false) (sym c.is_blank.ensures ∙ c.if-is_blank.false) (eq-eqb _ _ c.if-b-eq35.true) c.comment_end.ensures.end
