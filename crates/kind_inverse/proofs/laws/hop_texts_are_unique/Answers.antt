use Rattle.kind_inverse.proofs.Exactly.{hops_one}
use Rattle.kind_inverse.proofs.laws.hop_texts_are_unique.Goals as goal

pub returns : goal.returns
returns c = hops_one
