use Rattle.cut_bound.proofs.CutDuals.{cut-valid}
use Rattle.cut_bound.proofs.laws.cut_duals_are_valid.Goals as goal

pub returns : goal.returns
returns c = cut-valid
