use Rattle.sndlib_grammar.proofs.ReadBack.{reads_back}
use Rattle.sndlib_grammar.proofs.text_laws.canonical_text_reads_back.Goals as goal

pub returns : goal.returns
returns c = reads_back
