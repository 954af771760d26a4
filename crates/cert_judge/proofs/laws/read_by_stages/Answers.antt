use Rattle.cert_judge.proofs.KnownHeaders.{certificate_both, certificate_either, read_by, reads, reads_no_routing}
use Rattle.cert_judge.proofs.laws.read_by_stages.Goals as goal

pub returns : goal.returns
returns c = record {
  stages = λ known rows text net paper. (read_by known rows text net paper, reads known rows text net paper);
  certificates = λ rows text net proof. (certificate_both rows text net proof, certificate_either rows text net proof);
  routings = reads_no_routing;
}
