use Rattle.cert_inverse.proofs.JudgedTexts.{judged_certificate, judged_routing}
use Rattle.cert_inverse.proofs.judging.judged_texts_are_written.Goals as goal

pub returns : goal.returns
returns c = record { certificates = judged_certificate; routings = judged_routing }
