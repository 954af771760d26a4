use Rattle.unit_scale.proofs.WholeScaling.{decimals_are}
use Rattle.unit_scale.proofs.laws.decimals_are_least.Goals as goal

pub returns : goal.returns
returns c = decimals_are
