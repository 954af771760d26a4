use Rattle.std.proofs.lemmas.Bool.{ne_eqb}
use Rattle.std.proofs.Common.{refl, arith}
use Rattle.sndlib_grammar.proofs.Steps.{word_at}
use Rattle.sndlib_grammar.proofs.tokens.token_at.Goals as goal

pub returns-then-end-at-gt-MAX_WORD_BYTES : goal.returns-then-end-at-gt-MAX_WORD_BYTES
returns-then-end-at-gt-MAX_WORD_BYTES c =
    let found = word_at c.args.text.now c.args.at c.args.line c.word_end-end.result c.requires.place c.requires.start (ne_eqb _ _ c.if-b-eq40.false) (ne_eqb _ _ c.if-b-eq41.false) c.word_end-end.ensures.end in
    (_, found.0, omega (arith, found.1), refl)

pub returns : goal.returns
returns c =
    let found = word_at c.args.text.now c.args.at c.args.line c.word_end-end.result c.requires.place c.requires.start (ne_eqb _ _ c.if-b-eq40.false) (ne_eqb _ _ c.if-b-eq41.false) c.word_end-end.ensures.end in
    (found.0, omega (arith, found.1))
