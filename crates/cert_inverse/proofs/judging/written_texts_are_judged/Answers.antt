use Rattle.cert_inverse.proofs.JudgedTexts.{written, written_old}
use Rattle.cert_inverse.proofs.judging.written_texts_are_judged.Goals as goal

pub returns : goal.returns
returns c = record { new = written; old = written_old }
