use Rattle.matrix_batch.proofs.Found.{answers_exist}
use Rattle.matrix_batch.proofs.grammar_laws.texts_have_an_answer.Goals as goal

pub returns : goal.returns
returns c = answers_exist
