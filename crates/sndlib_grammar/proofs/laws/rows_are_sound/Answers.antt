use Rattle.sndlib_grammar.proofs.RowFacts.{text_rows_hold}
use Rattle.sndlib_grammar.proofs.laws.rows_are_sound.Goals as goal

pub returns : goal.returns
returns c = text_rows_hold
