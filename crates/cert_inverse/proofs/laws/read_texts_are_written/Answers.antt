use Rattle.cert_inverse.proofs.Exactly.{text_is, text_kept}
use Rattle.cert_inverse.proofs.TextTakes.{bytes_are}
use Rattle.cert_inverse.proofs.laws.read_texts_are_written.Goals as goal

pub returns : goal.returns
returns c = record { lines = bytes_are; texts = text_is; kept = text_kept }
