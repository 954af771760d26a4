use Rattle.fixed_exp.proofs.PowerTable.{weight_falls}
use Rattle.fixed_exp.proofs.laws.weights_never_grow.Goals as goal

pub returns : goal.returns
returns c = weight_falls
