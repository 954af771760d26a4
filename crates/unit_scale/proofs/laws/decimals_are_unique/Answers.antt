use Rattle.unit_scale.proofs.WholeScaling.{decimals_unique}
use Rattle.unit_scale.proofs.laws.decimals_are_unique.Goals as goal

pub returns : goal.returns
returns c = decimals_unique
