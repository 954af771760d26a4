-- What holds of lists, and of the network of a matrix.
use Rattle.std.specs.Prelude.{◌≡◌, ℕ, List, All, Result, Ok}
use Rattle.unit_scale.specs.declared.options.NetOptions.{NetOptions}
use Rattle.sndlib_grammar.specs.Grammar.{Symbol}
use Rattle.sndlib_grammar.specs.Rows.{NetRows, AreNetRows}
use Rattle.unit_scale.specs.Scaling.{scaled_of}
use Rattle.matrix_batch.specs.Grammar.{MatrixEntry, IsList}
use Rattle.matrix_batch.specs.Refusals.{BatchRefusal}
use Rattle.matrix_batch.specs.Matrices.{Matrix}
use Rattle.matrix_batch.specs.Batch.{IsBatch}

-- symbols are a list in one way
abbrev pub ListIsUnique : Type 0
ListIsUnique = (symbols : List Symbol) (matrices others : List MatrixEntry)
    → IsList symbols matrices → IsList symbols others → matrices ≡ others

-- a text has at most one answer
abbrev pub BatchIsUnique : Type 0
BatchIsUnique = (rows : NetRows) (o : NetOptions) (text : List ℕ) (answer other : Result (List Matrix) BatchRefusal)
    → IsBatch rows o text answer → IsBatch rows o text other → answer ≡ other

-- each text has an answer
abbrev pub BatchExists : Type 0
BatchExists = (rows : NetRows) (o : NetOptions) (text : List ℕ)
    → (answer : Result (List Matrix) BatchRefusal) × IsBatch rows o text answer

-- each matrix that is read has sound rows, and the network that they stand for
abbrev pub MatricesAreScaled : Type 0
MatricesAreScaled = (rows : NetRows) (o : NetOptions) (text : List ℕ) (batch : List Matrix)
    → AreNetRows rows → IsBatch rows o text (Ok batch)
    → All (λ (m : Matrix). AreNetRows m.rows × (scaled_of m.rows o ≡ Ok m.net)) batch
