-- What is wrong with matrices, in the order of the kinds, each kind over the whole list before the next.
use Rattle.std.specs.Prelude.{ℕ, nat_le, List, [], ◌∷◌, ◌++◌, map, Option, Some, None, slice_get, if◌then◌else◌}
use Rattle.std.specs.Option.{option_map}
use Rattle.std.specs.List.{list_all, list_any, flat_map}
use Rattle.mcf_limits.specs.declared.TheConstants.{MAX_DEMANDS, MAX_MATRICES}
use Rattle.unit_scale.specs.declared.options.NetOptions.{NetOptions}
use Rattle.unit_scale.specs.declared.modes.ModuleMode.{ModuleMode}
use Rattle.sndlib_grammar.specs.Grammar.{Word, DemandEntry}
use Rattle.sndlib_grammar.specs.Faults.{is_among, line_of, first_of, first_repeated, unknown_of_demand, bad_of_demand}
use Rattle.sndlib_grammar.specs.Rows.{NetRows, names_of_nodes}
use Rattle.sndlib_grammar.specs.declared.refusal.NetKind.TheVariants as netkinds
use Rattle.unit_scale.specs.Sizes.{is_fine_link, is_fine_demand, is_left_out}
use Rattle.unit_scale.specs.Scaling.{first_line, first_large, is_large_link, or_else}
use Rattle.matrix_batch.specs.Grammar.{MatrixEntry}
use Rattle.matrix_batch.specs.declared.list_refusal.ListKind.{ListKind}
use Rattle.matrix_batch.specs.declared.list_refusal.ListKind.TheVariants.{TooMany, Duplicate, UnknownNode, BadNumber, TooFine, TooLarge, NoDemand}
use Rattle.matrix_batch.specs.Refusals.{BatchRefusal, InNet, InList}
use Rattle.matrix_batch.specs.Matrices.{rows_of, decimals_for}

-- all demands, matrix after matrix
abbrev pub all_demands : List MatrixEntry → List DemandEntry
all_demands matrices = flat_map (λ m. m.demands) matrices

-- the smaller of two line numbers, where both are there
abbrev pub lesser_line : Option ℕ → Option ℕ → Option ℕ
lesser_line None other = other
lesser_line (Some a) None = Some a
lesser_line (Some a) (Some b) = Some (if nat_le a b then a else b)

-- the name of the first matrix too many, or the id of the first demand too many in all: the smaller line number
abbrev pub too_many : List MatrixEntry → Option ℕ
too_many matrices = lesser_line
    (line_of (slice_get (map (λ (m : MatrixEntry). m.name) matrices) MAX_MATRICES))
    (line_of (slice_get (map (λ (d : DemandEntry). d.id) (all_demands matrices)) MAX_DEMANDS))

-- the line of the word, where it is one of these
abbrev pub line_if_among : List (List ℕ) → Word → Option ℕ
line_if_among known w = if is_among known w then Some w.line else None

-- a matrix's name that is one of these or an earlier matrix's, or a demand's id that is an earlier one's of its matrix
abbrev pub repeated : List (List ℕ) → List MatrixEntry → Option ℕ
repeated known [] = None
repeated known (m ∷ ms) =
    or_else (line_if_among known m.name)
    (or_else (line_of (first_repeated [] (map (λ (d : DemandEntry). d.id) m.demands)))
    (repeated (known ++ m.name.text ∷ []) ms))

-- an end of a demand that is no node of the network
abbrev pub unknown_node : NetRows → List MatrixEntry → Option ℕ
unknown_node rows matrices = first_of (unknown_of_demand (names_of_nodes rows)) (all_demands matrices)

-- a unit, a value or a longest path that is no number
abbrev pub bad_number : List MatrixEntry → Option ℕ
bad_number matrices = first_of bad_of_demand (all_demands matrices)

-- a link of the network that is too fine
abbrev pub fine_link : ModuleMode → NetRows → Option ℕ
fine_link mode rows = first_line (is_fine_link mode) (λ l. l.line) rows.links

-- a demand of the matrix that is too fine
abbrev pub fine_in : NetRows → MatrixEntry → Option ℕ
fine_in rows m = first_line is_fine_demand (λ d. d.line) (rows_of rows m).demands

-- with the matrix's own decimals: its name, where a link is too large, else its first demand that is
abbrev pub large_in : NetOptions → NetRows → MatrixEntry → Option ℕ
large_in o rows m =
    let s = decimals_for o (rows_of rows m) in
    if list_any (is_large_link o.modules s) rows.links then Some m.name.line else first_large s 0 (rows_of rows m).demands

-- the matrix's name, where it has no commodity
abbrev pub empty_in : NetRows → MatrixEntry → Option ℕ
empty_in rows m = if list_all is_left_out (rows_of rows m).demands then Some m.name.line else None

-- the list is refused for this kind, at this line
abbrev pub in_list : ListKind → Option ℕ → Option BatchRefusal
in_list kind line = option_map (λ n. InList (record { line = n; kind = kind })) line

-- the network is refused for a link that is too fine
abbrev pub in_net : Option ℕ → Option BatchRefusal
in_net line = option_map (λ n. InNet (record { line = n; kind = netkinds.TooFine })) line

-- the first refusal of the matrices on the rows of a network, in the order of the kinds; a link too fine is the network's
abbrev pub batch_fault : NetRows → NetOptions → List MatrixEntry → Option BatchRefusal
batch_fault rows o matrices =
    or_else (in_list TooMany (too_many matrices))
    (or_else (in_list Duplicate (repeated [] matrices))
    (or_else (in_list UnknownNode (unknown_node rows matrices))
    (or_else (in_list BadNumber (bad_number matrices))
    (or_else (in_net (fine_link o.modules rows))
    (or_else (in_list TooFine (first_of (fine_in rows) matrices))
    (or_else (in_list TooLarge (first_of (large_in o rows) matrices))
    (in_list NoDemand (first_of (empty_in rows) matrices))))))))
