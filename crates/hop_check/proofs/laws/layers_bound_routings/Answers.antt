use Rattle.hop_check.proofs.Sound.{layers_bound_rows}
use Rattle.hop_check.proofs.laws.layers_bound_routings.Goals as goal

pub returns : goal.returns
returns c = layers_bound_rows
