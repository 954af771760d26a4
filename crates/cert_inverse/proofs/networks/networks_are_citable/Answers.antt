use Rattle.cert_inverse.proofs.NetworkWords.{citable, citable_old, citable_both, old_word}
use Rattle.cert_inverse.proofs.networks.networks_are_citable.Goals as goal

pub returns : goal.returns
returns c = record {
  new = citable;
  old = λ rows net own skipped ways. citable_old rows net own skipped (old_word net.options.links ways);
  both = citable_both;
}
