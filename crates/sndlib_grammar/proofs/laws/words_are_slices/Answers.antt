use Rattle.sndlib_grammar.proofs.RowFacts.{text_rows_slices}
use Rattle.sndlib_grammar.proofs.laws.words_are_slices.Goals as goal

pub returns : goal.returns
returns c = text_rows_slices
