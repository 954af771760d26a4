use Rattle.hop_paths.proofs.Layered.{layers_bound}
use Rattle.hop_paths.proofs.laws.layers_bound_walks.Goals as goal

pub returns : goal.returns
returns c = λ net lengths p m u v walk are inside w l. layers_bound net lengths p m u v walk are inside w l
