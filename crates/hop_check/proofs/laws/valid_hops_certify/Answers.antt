use Rattle.hop_check.proofs.Sound.{hops_certify}
use Rattle.hop_check.proofs.laws.valid_hops_certify.Goals as goal

pub returns : goal.returns
returns c = λ net limits h fits are valid. hops_certify net limits h fits valid
