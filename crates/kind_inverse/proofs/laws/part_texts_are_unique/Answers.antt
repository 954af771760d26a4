use Rattle.kind_inverse.proofs.Exactly.{parts_one}
use Rattle.kind_inverse.proofs.laws.part_texts_are_unique.Goals as goal

pub returns : goal.returns
returns c = parts_one
