-- Matrices that are scaled one after the other.
use Rattle.std.specs.Prelude.{ℕ, List, [], ◌∷◌, ◌++◌, Option, Some, None, Result, Ok, Err}
use Rattle.sndlib_grammar.specs.Faults.{or_else}
use Rattle.sndlib_grammar.specs.Rows.{NetRows}
use Rattle.sndlib_grammar.specs.declared.refusal.NetKind.{NetKind}
use Rattle.sndlib_grammar.specs.declared.refusal.NetKind.TheVariants as netkinds
use Rattle.unit_scale.specs.declared.options.NetOptions.{NetOptions}
use Rattle.unit_scale.specs.declared.refusal.RowSort.{RowSort}
use Rattle.unit_scale.specs.declared.refusal.RowSort.TheVariants.{Link}
use Rattle.unit_scale.specs.declared.refusal.RowRefusal.{RowRefusal}
use Rattle.unit_scale.specs.Scaling.{ScaledNet}
use Rattle.unit_scale.specs.Sorts.{scaled_at}
use Rattle.matrix_batch.specs.declared.list_refusal.ListKind.{ListKind}
use Rattle.matrix_batch.specs.declared.list_refusal.ListKind.TheVariants.{TooFine, TooLarge, NoDemand}
use Rattle.matrix_batch.specs.declared.list_refusal.ListRefusal.{ListRefusal}
use Rattle.matrix_batch.specs.Matrices.{Matrix}
use Rattle.matrix_batch.specs.Lists.{NamedDemands}
use Rattle.matrix_batch.specs.Scaled.{own_rows}

-- the matrices whose networks are accepted so far, and the lines of the first matrix or demand that is too large and of the first
-- matrix without a commodity
pub record Sofar : Type 0 where
  pub matrices : List Matrix
  pub large : Option ℕ
  pub empty : Option ℕ

abbrev pub none_yet : Sofar
none_yet = record { matrices = []; large = None; empty = None }

-- one matrix more
abbrev pub with_matrix : NetRows → NamedDemands → ScaledNet → Sofar → Sofar
with_matrix rows m net s =
    record s { matrices = s.matrices ++ record { name = m.name.text; rows = own_rows rows m; net = net } ∷ [] }

-- where what is too large is told: a link at the matrix's name, a demand at its id
abbrev pub line_of_large : ℕ → RowSort → ℕ → ℕ
line_of_large name Link line = name
line_of_large name _ line = line

-- a matrix that is refused: what is too fine is told at once
abbrev pub with_refusal : ℕ → RowSort → ℕ → NetKind → Sofar → Result Sofar ListRefusal
with_refusal name sort line netkinds.TooFine s = Err (record { line = line; kind = TooFine })
with_refusal name sort line netkinds.TooLarge s = Ok (record s { large = or_else s.large (Some (line_of_large name sort line)) })
with_refusal name sort line _ s = Ok (record s { empty = or_else s.empty (Some name) })

-- behind the matrix that was scaled so
abbrev pub behind : NetRows → NamedDemands → Result ScaledNet RowRefusal → Sofar → Result Sofar ListRefusal
behind rows m (Ok net) s = Ok (with_matrix rows m net s)
behind rows m (Err r) s = with_refusal m.name.line r.sort r.refusal.line r.refusal.kind s

-- behind the matrix, whose network has decimals of its own
abbrev pub scaled_one : NetRows → NetOptions → NamedDemands → Sofar → Result Sofar ListRefusal
scaled_one rows o m s = behind rows m (scaled_at (own_rows rows m) o) s

abbrev pub at_line : ListKind → ℕ → ListRefusal
at_line kind line = record { line = line; kind = kind }

-- after all matrices: the line of the first that is too large, else of the first without a demand, else the matrices
abbrev pub finished : Option ℕ → Option ℕ → List Matrix → Result (List Matrix) ListRefusal
finished (Some line) empty matrices = Err (at_line TooLarge line)
finished None (Some line) matrices = Err (at_line NoDemand line)
finished None None matrices = Ok matrices

-- one after the other
abbrev pub then_all : (Sofar → Result (List Matrix) ListRefusal) → Result Sofar ListRefusal → Result (List Matrix) ListRefusal
then_all rest (Ok s) = rest s
then_all rest (Err r) = Err r

-- the matrices of what was read, behind these
abbrev pub scaled_all : NetRows → NetOptions → List NamedDemands → Sofar → Result (List Matrix) ListRefusal
scaled_all rows o [] s = finished s.large s.empty s.matrices
scaled_all rows o (m ∷ ms) s = then_all (scaled_all rows o ms) (scaled_one rows o m s)
