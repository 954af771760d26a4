use Rattle.matrix_batch.proofs.Batches.{read_is_scaled}
use Rattle.matrix_batch.proofs.reading_laws.what_is_read_is_scaled.Goals as goal

pub returns : goal.returns
returns c = read_is_scaled
