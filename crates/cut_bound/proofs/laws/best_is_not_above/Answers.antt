use Rattle.cut_bound.proofs.Bounding.{best-not-above}
use Rattle.cut_bound.proofs.laws.best_is_not_above.Goals as goal

pub returns : goal.returns
returns c = best-not-above
