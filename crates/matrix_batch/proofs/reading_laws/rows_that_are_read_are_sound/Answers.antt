use Rattle.matrix_batch.proofs.Batches.{read_rows_are_sound}
use Rattle.matrix_batch.proofs.reading_laws.rows_that_are_read_are_sound.Goals as goal

pub returns : goal.returns
returns c = read_rows_are_sound
