-- What is wrong with what is kept of matrices, and the rows that it stands for.
use Rattle.std.specs.Prelude.{◌≡◌, ℕ, List, [], map, Option, Some, None, Result, Ok, Err}
use Rattle.std.specs.declared.vec.Vec.{Vec}
use Rattle.std.specs.declared.alloc.Global.{Global}
use Rattle.sndlib_grammar.specs.Grammar.{DemandEntry}
use Rattle.sndlib_grammar.specs.Faults.{or_else, first_of, unknown_of_demand}
use Rattle.sndlib_grammar.specs.Rows.{NetRows, names_of_nodes, net_demand}
use Rattle.sndlib_rows.specs.declared.row.DemandRow.{DemandRow}
use Rattle.sndlib_rows.specs.RowViews.{demand_row_view}
use Rattle.matrix_batch.specs.Grammar.{MatrixEntry}
use Rattle.matrix_batch.specs.declared.list_refusal.ListKind.{ListKind}
use Rattle.matrix_batch.specs.declared.list_refusal.ListKind.TheVariants.{TooMany, Duplicate, UnknownNode, BadNumber}
use Rattle.matrix_batch.specs.declared.list_refusal.ListRefusal.{ListRefusal}
use Rattle.matrix_batch.specs.Faults.{lesser_line, repeated, unknown_node, bad_number}
use Rattle.matrix_batch.specs.declared.row.MatrixRows.{MatrixRows}
use Rattle.matrix_batch.specs.declared.read_end.ReadListEnd.{ReadListEnd}
use Rattle.matrix_batch.specs.declared.read_end.ReadListEnd.TheVariants.{Refused, Memory}
use Rattle.matrix_batch.specs.Lists.{named_demands, at_line}
use Rattle.matrix_batch.specs.ListAnswer.{matrices_view}
use Rattle.matrix_batch.specs.Stored.{Stored}

-- the refusal of this kind; if memory ran out, nothing is said
abbrev pub IsEnd : ListKind → Option ℕ → ReadListEnd → Type 0
IsEnd kind found Memory = Unit {0}
IsEnd kind found (Refused r) = at_line kind found ≡ Some r

-- nothing of this kind is found; or it is the refusal
abbrev pub Finds : {X : Type 0} → ListKind → Option ℕ → Result X ReadListEnd → Type 0
Finds kind found (Ok x) = found ≡ None
Finds kind found (Err e) = IsEnd kind found e

-- the demand with the numbers of its ends, or the line of the first end that is no node
abbrev pub IsRow : NetRows → DemandEntry → Result DemandRow ℕ → Type 0
IsRow rows d (Ok row) =
    (unknown_of_demand (names_of_nodes rows) d ≡ None) × (demand_row_view row ≡ net_demand (names_of_nodes rows) d)
IsRow rows d (Err line) = unknown_of_demand (names_of_nodes rows) d ≡ Some line

-- the same of demands
abbrev pub AreRows : NetRows → List DemandEntry → Result (Vec DemandRow Global) ReadListEnd → Type 0
AreRows rows ds (Ok v) =
    (first_of (unknown_of_demand (names_of_nodes rows)) ds ≡ None)
    × (map demand_row_view v.items ≡ map (net_demand (names_of_nodes rows)) ds)
AreRows rows ds (Err e) = IsEnd UnknownNode (first_of (unknown_of_demand (names_of_nodes rows)) ds) e

-- and of matrices
abbrev pub AreNumbered : NetRows → List MatrixEntry → Result (Vec MatrixRows Global) ReadListEnd → Type 0
AreNumbered rows ms (Ok v) = (unknown_node rows ms ≡ None) × (matrices_view v ≡ map (named_demands rows) ms)
AreNumbered rows ms (Err e) = IsEnd UnknownNode (unknown_node rows ms) e

-- the first fault of what is kept
abbrev pub stored_fault : NetRows → Stored → Option ListRefusal
stored_fault rows k =
    or_else (at_line TooMany (lesser_line k.extra_matrix k.extra_demand))
    (or_else (at_line Duplicate (repeated [] k.matrices))
    (or_else (at_line UnknownNode (unknown_node rows k.matrices))
    (at_line BadNumber (bad_number k.matrices))))

-- the matrices with the numbers of their ends, or the first fault
abbrev pub IsJudged : NetRows → Stored → Result (Vec MatrixRows Global) ReadListEnd → Type 0
IsJudged rows k (Ok v) = (stored_fault rows k ≡ None) × (matrices_view v ≡ map (named_demands rows) k.matrices)
IsJudged rows k (Err Memory) = Unit {0}
IsJudged rows k (Err (Refused r)) = stored_fault rows k ≡ Some r
