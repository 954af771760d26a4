use Rattle.hop_check.proofs.Sound.{distances_bound}
use Rattle.hop_check.proofs.laws.distances_bound_within.Goals as goal

pub returns : goal.returns
returns c = distances_bound
