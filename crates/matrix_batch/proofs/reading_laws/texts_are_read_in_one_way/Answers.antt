use Rattle.matrix_batch.proofs.Batches.{read_is_unique}
use Rattle.matrix_batch.proofs.reading_laws.texts_are_read_in_one_way.Goals as goal

pub returns : goal.returns
returns c = read_is_unique
