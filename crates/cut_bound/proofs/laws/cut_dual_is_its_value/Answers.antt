use Rattle.cut_bound.proofs.CutDuals.{cut-value}
use Rattle.cut_bound.proofs.laws.cut_dual_is_its_value.Goals as goal

pub returns : goal.returns
returns c = cut-value
