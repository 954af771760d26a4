use Rattle.cert_inverse.proofs.JudgedTexts.{valid_certificate, valid_routing, valid_old_certificate, valid_old_routing}
use Rattle.cert_inverse.proofs.judging.valid_texts_are_judged_valid.Goals as goal

pub returns : goal.returns
returns c = record {
  certificates = valid_certificate;
  routings = valid_routing;
  old_certificates = valid_old_certificate;
  old_routings = valid_old_routing;
}
