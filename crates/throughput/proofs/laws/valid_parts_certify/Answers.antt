use Rattle.throughput.proofs.Sound.{parts_certify}
use Rattle.throughput.proofs.laws.valid_parts_certify.Goals as goal

pub returns : goal.returns
returns c = parts_certify
