-- Matrices that are scaled one after the other are the batch of what was read.
use Rattle.std.proofs.Common.{◌≡◌, ℕ, List, [], ◌∷◌, ◌++◌, map, Option, Some, None, Result, Ok, Err, refl, ap, sym, ◌∙◌, append-nil, append_assoc}
use Rattle.sndlib_grammar.specs.Faults.{first_of, or_else}
use Rattle.sndlib_grammar.specs.Rows.{NetRows}
use Rattle.unit_scale.specs.declared.options.NetOptions.{NetOptions}
use Rattle.unit_scale.specs.declared.refusal.RowRefusal.{RowRefusal}
use Rattle.unit_scale.specs.Scaling.{ScaledNet}
use Rattle.matrix_batch.specs.declared.list_refusal.ListKind.TheVariants.{TooFine, TooLarge, NoDemand}
use Rattle.matrix_batch.specs.declared.list_refusal.ListRefusal.{ListRefusal}
use Rattle.matrix_batch.specs.Refusals.{BatchRefusal, InList}
use Rattle.matrix_batch.specs.Matrices.{Matrix}
use Rattle.matrix_batch.specs.Faults.{fine_link, in_net}
use Rattle.matrix_batch.specs.Lists.{NamedDemands}
use Rattle.matrix_batch.specs.Scaled.{fine_demand, large_row, no_commodity, scaled_matrix, batch_of, unless_fault}
use Rattle.unit_scale.specs.Scaling.{or_else as or_fault}
use Rattle.matrix_batch.specs.Faults.{in_list}
use Rattle.matrix_batch.specs.Scaling.{Sofar, none_yet, line_of_large, behind, at_line, finished, then_all, scaled_all}
use Rattle.matrix_batch.proofs.Telling.{Told, Fine, Large, Empty, Whole, told}

-- the refusal is the list's
abbrev pub in_batch : Result (List Matrix) ListRefusal → Result (List Matrix) BatchRefusal
in_batch (Ok ms) = Ok ms
in_batch (Err r) = Err (InList r)

-- the matrices, or the first of these lines in the order of their kinds
abbrev expected : Option ℕ → Option ℕ → Option ℕ → List Matrix → Result (List Matrix) BatchRefusal
expected (Some line) large empty ms = Err (InList (at_line TooFine line))
expected None (Some line) empty ms = Err (InList (at_line TooLarge line))
expected None None (Some line) ms = Err (InList (at_line NoDemand line))
expected None None None ms = Ok ms

-- ---- the lines of the first and of the others

nothing_left : (large empty : Option ℕ) (ms : List Matrix) → in_batch (finished large empty ms) ≡ expected None (or_else large None) (or_else empty None) (ms ++ [])
nothing_left (Some l) empty ms = refl
nothing_left None (Some e) ms = refl
nothing_left None None ms = ap (λ (x : List Matrix). Ok x) (sym (append-nil ms))

large_told : (fine large more empty other : Option ℕ) (line : ℕ) (ms ns : List Matrix)
    → expected fine (or_else (or_else large (Some line)) more) empty ms ≡ expected fine (or_else large (or_else (Some line) more)) other ns
large_told (Some f) large more empty other line ms ns = refl
large_told None (Some l) more empty other line ms ns = refl
large_told None None more empty other line ms ns = refl

empty_told : (fine large empty more : Option ℕ) (line : ℕ) (ms ns : List Matrix)
    → expected fine large (or_else (or_else empty (Some line)) more) ms ≡ expected fine large (or_else empty (or_else (Some line) more)) ns
empty_told (Some f) large empty more line ms ns = refl
empty_told None (Some l) empty more line ms ns = refl
empty_told None None (Some e) more line ms ns = refl
empty_told None None None more line ms ns = refl

-- ---- all matrices

abbrev expected_behind : NetRows → NetOptions → List NamedDemands → Sofar → Result (List Matrix) BatchRefusal
expected_behind rows o read s =
    expected (first_of fine_demand read) (or_else s.large (first_of (large_row o rows) read)) (or_else s.empty (first_of no_commodity read))
    (s.matrices ++ map (scaled_matrix rows o) read)

-- what follows a matrix that was scaled so
abbrev after_it : NetRows → NetOptions → NamedDemands → List NamedDemands → Sofar → Result ScaledNet RowRefusal → Result (List Matrix) BatchRefusal
after_it rows o m ms s net = in_batch (then_all (scaled_all rows o ms) (behind rows m net s))

-- the first option of a list is that of its head, or else of the rest
abbrev all_told : NetRows → NetOptions → NamedDemands → List NamedDemands → Sofar → Option ℕ → Option ℕ → Option ℕ → Result (List Matrix) BatchRefusal
all_told rows o m ms s fine large empty =
    expected (or_else fine (first_of fine_demand ms)) (or_else s.large (or_else large (first_of (large_row o rows) ms)))
    (or_else s.empty (or_else empty (first_of no_commodity ms))) (s.matrices ++ scaled_matrix rows o m ∷ map (scaled_matrix rows o) ms)

told_is : (rows : NetRows) (o : NetOptions) (m : NamedDemands) (ms : List NamedDemands) (s : Sofar) (fine large empty : Option ℕ)
    → fine_demand m ≡ fine → large_row o rows m ≡ large → no_commodity m ≡ empty → all_told rows o m ms s fine large empty ≡ expected_behind rows o (m ∷ ms) s
told_is rows o m ms s fine large empty f l n =
    ap (λ (x : Option ℕ). all_told rows o m ms s x large empty) (sym f)
    ∙ (ap (λ (x : Option ℕ). all_told rows o m ms s (fine_demand m) x empty) (sym l)
    ∙ ap (λ (x : Option ℕ). all_told rows o m ms s (fine_demand m) (large_row o rows m) x) (sym n))

one_more : (rows : NetRows) (o : NetOptions) (m : NamedDemands) (ms : List NamedDemands) (s : Sofar)
    → ((t : Sofar) → in_batch (scaled_all rows o ms t) ≡ expected_behind rows o ms t) → Told rows o m → in_batch (scaled_all rows o (m ∷ ms) s) ≡ expected_behind rows o (m ∷ ms) s
one_more rows o m ms s rest (Fine line f e) = ap (after_it rows o m ms s) e ∙ told_is rows o m ms s (Some line) (large_row o rows m) (no_commodity m) f refl refl
one_more rows o m ms s rest (Large sort line f l e) =
    let at = line_of_large m.name.line sort line in
    let t : Sofar = record s { large = or_else s.large (Some at) } in
    let others = or_else s.empty (or_else (no_commodity m) (first_of no_commodity ms)) in
    ap (after_it rows o m ms s) e ∙ (rest t
    ∙ (large_told (first_of fine_demand ms) s.large (first_of (large_row o rows) ms) (or_else s.empty (first_of no_commodity ms)) others at (s.matrices ++ map (scaled_matrix rows o) ms) (s.matrices ++ scaled_matrix rows o m ∷ map (scaled_matrix rows o) ms)
    ∙ told_is rows o m ms s None (Some at) (no_commodity m) f l refl))
one_more rows o m ms s rest (Empty line f l n e) =
    let t : Sofar = record s { empty = or_else s.empty (Some m.name.line) } in
    ap (after_it rows o m ms s) e ∙ (rest t
    ∙ (empty_told (first_of fine_demand ms) (or_else s.large (first_of (large_row o rows) ms)) s.empty (first_of no_commodity ms) m.name.line (s.matrices ++ map (scaled_matrix rows o) ms) (s.matrices ++ scaled_matrix rows o m ∷ map (scaled_matrix rows o) ms)
    ∙ told_is rows o m ms s None None (Some m.name.line) f l n))
one_more rows o m ms s rest (Whole f l n e) =
    let t : Sofar = record s { matrices = s.matrices ++ scaled_matrix rows o m ∷ [] } in
    ap (after_it rows o m ms s) e ∙ (rest t
    ∙ (ap (λ (xs : List Matrix). expected (first_of fine_demand ms) (or_else s.large (first_of (large_row o rows) ms)) (or_else s.empty (first_of no_commodity ms)) xs) (append_assoc s.matrices (scaled_matrix rows o m ∷ []) (map (scaled_matrix rows o) ms))
    ∙ told_is rows o m ms s None None None f l n))

pub all_scaled : (rows : NetRows) (o : NetOptions) (read : List NamedDemands) (s : Sofar) → fine_link o.modules rows ≡ None → in_batch (scaled_all rows o read s) ≡ expected_behind rows o read s
all_scaled rows o [] s links = nothing_left s.large s.empty s.matrices
all_scaled rows o (m ∷ ms) s links = one_more rows o m ms s (λ t. all_scaled rows o ms t links) (told rows o m links)

-- ---- the batch

by_kinds : (fine large empty : Option ℕ) (ms : List Matrix) → expected fine large empty ms ≡ unless_fault ms (or_fault (in_list TooFine fine) (or_fault (in_list TooLarge large) (in_list NoDemand empty)))
by_kinds (Some f) large empty ms = refl
by_kinds None (Some l) empty ms = refl
by_kinds None None (Some e) ms = refl
by_kinds None None None ms = refl

-- what is scaled of what was read is its batch, where no link is too fine
pub scaled_is_batch : (rows : NetRows) (o : NetOptions) (read : List NamedDemands) → fine_link o.modules rows ≡ None → in_batch (scaled_all rows o read none_yet) ≡ batch_of rows o (Ok read)
scaled_is_batch rows o read links =
    let rest = or_fault (in_list TooFine (first_of fine_demand read)) (or_fault (in_list TooLarge (first_of (large_row o rows) read)) (in_list NoDemand (first_of no_commodity read))) in
    all_scaled rows o read none_yet links
    ∙ (by_kinds (first_of fine_demand read) (first_of (large_row o rows) read) (first_of no_commodity read) (map (scaled_matrix rows o) read)
    ∙ ap (λ (fl : Option ℕ). unless_fault (map (scaled_matrix rows o) read) (or_fault (in_net fl) rest)) (sym links))
