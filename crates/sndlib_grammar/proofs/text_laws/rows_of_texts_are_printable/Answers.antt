use Rattle.sndlib_grammar.proofs.Printable.{text_printable}
use Rattle.sndlib_grammar.proofs.text_laws.rows_of_texts_are_printable.Goals as goal

pub returns : goal.returns
returns c = text_printable
