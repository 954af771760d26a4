-- What the reader answers.
use Rattle.std.specs.Prelude.{ℕ, List, All, map, Result, Ok, Err}
use Rattle.std.specs.declared.vec.Vec.{Vec}
use Rattle.std.specs.declared.alloc.Global.{Global}
use Rattle.sndlib_grammar.specs.Rows.{NetRows}
use Rattle.sndlib_grammar.specs.Slices.{IsSliceOf}
use Rattle.sndlib_grammar.specs.Words.{OnDemand}
use Rattle.sndlib_rows.specs.RowViews.{demand_row_view}
use Rattle.matrix_batch.specs.declared.row.MatrixRows.{MatrixRows}
use Rattle.matrix_batch.specs.declared.read_end.ReadListEnd.{ReadListEnd}
use Rattle.matrix_batch.specs.declared.read_end.ReadListEnd.TheVariants.{Refused, Memory}
use Rattle.matrix_batch.specs.Lists.{NamedDemands, IsRead}

-- a matrix that was read, without where its words lie in memory
abbrev pub matrix_view : MatrixRows → NamedDemands
matrix_view m = record {
  name = record { text = m.name.now; line = m.line };
  demands = map demand_row_view m.demands.items;
}

abbrev pub matrices_view : Vec MatrixRows Global → List NamedDemands
matrices_view v = map matrix_view v.items

-- these are the matrices of the text, or this is its refusal; if memory ran out, nothing is said
abbrev pub Answers : NetRows → List ℕ → Result (Vec MatrixRows Global) ReadListEnd → Type 0
Answers rows text (Ok v) = IsRead rows text (Ok (matrices_view v))
Answers rows text (Err (Refused r)) = IsRead rows text (Err r)
Answers rows text (Err Memory) = Unit {0}

-- each word of the matrix stands somewhere in the bytes: its name, and the words of its demands
pub record IsMatrixIn (bytes : List ℕ) (m : NamedDemands) : Type 0 where
  pub name : IsSliceOf bytes m.name.text
  pub demands : All (OnDemand (IsSliceOf bytes)) m.demands
