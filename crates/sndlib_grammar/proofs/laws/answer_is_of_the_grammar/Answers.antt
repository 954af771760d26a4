use Rattle.sndlib_grammar.proofs.Judged.{text_judged}
use Rattle.sndlib_grammar.proofs.laws.answer_is_of_the_grammar.Goals as goal

pub returns : goal.returns
returns c = text_judged
