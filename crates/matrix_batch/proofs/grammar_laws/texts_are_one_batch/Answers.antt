use Rattle.matrix_batch.proofs.Only.{answers_once}
use Rattle.matrix_batch.proofs.grammar_laws.texts_are_one_batch.Goals as goal

pub returns : goal.returns
returns c = answers_once
