use Rattle.cut_bound.proofs.Bounding.{cut-bounds}
use Rattle.cut_bound.proofs.laws.cuts_bound_routings.Goals as goal

pub returns : goal.returns
returns c = cut-bounds
