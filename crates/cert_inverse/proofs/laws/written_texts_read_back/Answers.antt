use Rattle.cert_inverse.proofs.TextAgain.{reads_back}
use Rattle.cert_inverse.proofs.laws.written_texts_read_back.Goals as goal

pub returns : goal.returns
returns c = reads_back
