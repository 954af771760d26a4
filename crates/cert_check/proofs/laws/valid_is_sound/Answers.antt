use Rattle.cert_check.proofs.Sound.{valid_certifies}
use Rattle.cert_check.proofs.laws.valid_is_sound.Goals as goal

pub returns : goal.returns
returns c = λ net proof valid. valid_certifies net proof valid
