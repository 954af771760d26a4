-- What the reader of tokens answers.
use Rattle.std.specs.Prelude.{◌≡◌, List, Some, None, Result, Ok, Err}
use Rattle.sndlib_grammar.specs.Tokens.{Lexeme}
use Rattle.matrix_batch.specs.Grammar.{MatrixEntry}
use Rattle.matrix_batch.specs.declared.list_refusal.ListKind.TheVariants.{Syntax}
use Rattle.matrix_batch.specs.declared.list_refusal.ListRefusal.{ListRefusal}
use Rattle.matrix_batch.specs.declared.mode.Mode.{Mode}
use Rattle.matrix_batch.specs.declared.read_end.ReadListEnd.{ReadListEnd}
use Rattle.matrix_batch.specs.declared.read_end.ReadListEnd.TheVariants.{Refused, Memory}
use Rattle.matrix_batch.specs.declared.sofar.Sofar.{Sofar as SofarWords}
use Rattle.matrix_batch.specs.Reading.{after}
use Rattle.matrix_batch.specs.Stored.{Stored, put, FitsList}
use Rattle.matrix_batch.specs.ReadViews.{sofar_view}

-- one token more
abbrev pub Steps : Result Mode ReadListEnd → Mode → Lexeme → Stored → Stored → Type 0
Steps (Ok next) m t old new = (after m t.kind ≡ Some next) × (new ≡ put m t old)
Steps (Err Memory) m t old new = Unit {0}
Steps (Err (Refused r)) m t old new = (after m t.kind ≡ None) × (r ≡ record { line = t.line; kind = Syntax })

-- these matrices are read, and that is kept of them
pub record IsKept (read : Result (List MatrixEntry) ListRefusal) (k : Stored) : Type 0 where
  pub found : List MatrixEntry
  pub reads : read ≡ Ok found
  pub fits : FitsList k found

-- what is kept of what is read, unless memory ran out
abbrev pub Keeps : Result SofarWords ReadListEnd → Result (List MatrixEntry) ListRefusal → Type 0
Keeps (Ok k) read = IsKept read (sofar_view k)
Keeps (Err Memory) read = Unit {0}
Keeps (Err (Refused r)) read = read ≡ Err r
