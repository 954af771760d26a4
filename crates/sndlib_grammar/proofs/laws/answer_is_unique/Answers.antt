use Rattle.sndlib_grammar.proofs.Judged.{text_only}
use Rattle.sndlib_grammar.proofs.laws.answer_is_unique.Goals as goal

pub returns : goal.returns
returns c = text_only
