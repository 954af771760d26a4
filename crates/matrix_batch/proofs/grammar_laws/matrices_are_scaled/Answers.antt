use Rattle.matrix_batch.proofs.Sound.{scaled}
use Rattle.matrix_batch.proofs.grammar_laws.matrices_are_scaled.Goals as goal

pub returns : goal.returns
returns c = scaled
