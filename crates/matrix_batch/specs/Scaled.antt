-- From matrices that were read to networks in units, or the first refusal of scaling.
use Rattle.std.specs.Prelude.{◌≡◌, ℕ, List, map, Option, Some, None, Result, Ok, Err, if◌then◌else◌}
use Rattle.std.specs.List.{list_all, list_any, AllByRecursion}
use Rattle.unit_scale.specs.declared.options.NetOptions.{NetOptions}
use Rattle.sndlib_grammar.specs.Faults.{first_of}
use Rattle.sndlib_grammar.specs.Rows.{NetRows, AreNetRows}
use Rattle.unit_scale.specs.Sizes.{is_fine_demand, is_left_out}
use Rattle.unit_scale.specs.Scaling.{scaled_with, first_line, first_large, is_large_link, or_else}
use Rattle.matrix_batch.specs.declared.list_refusal.ListKind.TheVariants.{TooFine, TooLarge, NoDemand}
use Rattle.matrix_batch.specs.declared.list_refusal.ListRefusal.{ListRefusal}
use Rattle.matrix_batch.specs.Refusals.{BatchRefusal, InList}
use Rattle.matrix_batch.specs.Matrices.{Matrix, with_demands, decimals_for}
use Rattle.matrix_batch.specs.Faults.{fine_link, in_list, in_net}
use Rattle.matrix_batch.specs.Batch.{IsBatch}
use Rattle.matrix_batch.specs.Lists.{NamedDemands, IsRead}

-- the network's rows, with the matrix's demands in place of their own
abbrev pub own_rows : NetRows → NamedDemands → NetRows
own_rows rows m = with_demands rows m.demands

-- the matrix's rows are as those of every text
abbrev pub AreOwnRows : NetRows → List NamedDemands → Type 0
AreOwnRows rows read = AllByRecursion (λ (m : NamedDemands). AreNetRows (own_rows rows m)) read

-- a demand of the matrix that is too fine
abbrev pub fine_demand : NamedDemands → Option ℕ
fine_demand m = first_line is_fine_demand (λ d. d.line) m.demands

-- with the matrix's own decimals: its name, where a link is too large, else its first demand that is
abbrev pub large_row : NetOptions → NetRows → NamedDemands → Option ℕ
large_row o rows m =
    let s = decimals_for o (own_rows rows m) in
    if list_any (is_large_link o.modules s) rows.links then Some m.name.line else first_large s 0 m.demands

-- the matrix's name, where it has no commodity
abbrev pub no_commodity : NamedDemands → Option ℕ
no_commodity m = if list_all is_left_out m.demands then Some m.name.line else None

-- the first refusal of scaling, in the order of the kinds, each over all matrices before the next
abbrev pub scaling_fault : NetRows → NetOptions → List NamedDemands → Option BatchRefusal
scaling_fault rows o read =
    or_else (in_net (fine_link o.modules rows))
    (or_else (in_list TooFine (first_of fine_demand read))
    (or_else (in_list TooLarge (first_of (large_row o rows) read))
    (in_list NoDemand (first_of no_commodity read))))

-- the matrix with its network in units, which has decimals of its own
abbrev pub scaled_matrix : NetRows → NetOptions → NamedDemands → Matrix
scaled_matrix rows o m = record {
  name = m.name.text;
  rows = own_rows rows m;
  net = scaled_with o (decimals_for o (own_rows rows m)) (own_rows rows m);
}

abbrev pub unless_fault : List Matrix → Option BatchRefusal → Result (List Matrix) BatchRefusal
unless_fault batch None = Ok batch
unless_fault batch (Some r) = Err r

-- the batch of what was read, or its refusal
abbrev pub batch_of : NetRows → NetOptions → Result (List NamedDemands) ListRefusal → Result (List Matrix) BatchRefusal
batch_of rows o (Ok read) = unless_fault (map (scaled_matrix rows o) read) (scaling_fault rows o read)
batch_of rows o (Err r) = Err (InList r)

-- ---- the laws

-- what is read of a text and then scaled is the text's batch
abbrev pub ReadIsScaled : Type 0
ReadIsScaled = (rows : NetRows) (o : NetOptions) (text : List ℕ) (read : Result (List NamedDemands) ListRefusal)
    → IsRead rows text read → IsBatch rows o text (batch_of rows o read)

-- on sound rows, the rows of each matrix that is read are sound
abbrev pub ReadRowsAreSound : Type 0
ReadRowsAreSound = (rows : NetRows) (text : List ℕ) (read : List NamedDemands)
    → AreNetRows rows → IsRead rows text (Ok read) → AreOwnRows rows read

-- a text is read in one way
abbrev pub ReadIsUnique : Type 0
ReadIsUnique = (rows : NetRows) (text : List ℕ) (read other : Result (List NamedDemands) ListRefusal)
    → IsRead rows text read → IsRead rows text other → read ≡ other
