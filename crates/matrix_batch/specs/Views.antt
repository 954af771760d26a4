-- Matrices as the definitions of lists have them, without where their names lie in memory.
use Rattle.std.specs.Prelude.{List, map}
use Rattle.matrix_batch.specs.Matrices.{Matrix}
use Rattle.matrix_batch.specs.declared.matrix.Matrix.{Matrix as MatrixRows}

abbrev pub matrix_view : MatrixRows → Matrix
matrix_view m = record { name = m.name.now; rows = m.rows; net = m.net }

abbrev pub batch_view : List MatrixRows → List Matrix
batch_view ms = map matrix_view ms
