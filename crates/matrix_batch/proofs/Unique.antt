-- Symbols are a list in one way.
use Rattle.std.proofs.Common.{◌≡◌, List, [], ◌∷◌, ◌++◌, refl, ap, sym, ◌∙◌, append_assoc}
use Rattle.std.specs.List.{flat_map}
use Rattle.sndlib_grammar.specs.Grammar.{Symbol, Left, Right, Name, DemandEntry, demand}
use Rattle.matrix_batch.specs.Grammar.{MatrixEntry, matrix, spelled}
use Rattle.matrix_batch.specs.Laws.{ListIsUnique}

-- demands up to a parenthesis, and what stands behind it
demands_once : (ds es : List DemandEntry) (r s : List Symbol) → flat_map demand ds ++ Right ∷ r ≡ flat_map demand es ++ Right ∷ s → (ds ≡ es) × (r ≡ s)
demands_once [] [] r s h = (refl, cc)
demands_once [] (e ∷ es) r s h = absurd cc
demands_once (d ∷ ds) [] r s h = absurd cc
demands_once (d ∷ ds) (e ∷ es) r s h =
    let rest : flat_map demand ds ++ Right ∷ r ≡ flat_map demand es ++ Right ∷ s = cc in
    let id : d.id ≡ e.id = cc in
    let source : d.source ≡ e.source = cc in
    let target : d.target ≡ e.target = cc in
    let unit : d.unit ≡ e.unit = cc in
    let value : d.value ≡ e.value = cc in
    let longest : d.longest ≡ e.longest = cc in
    let more = demands_once ds es r s rest in
    let same : record { id = d.id; source = d.source; target = d.target; unit = d.unit; value = d.value; longest = d.longest } ≡ e = rw (id, source, target, unit, value, longest) refl in
    (rw (same, more.0) refl, more.1)

-- a matrix and what stands behind it
matrix_parts : (m : MatrixEntry) (more : List Symbol) → matrix m ++ more ≡ Name m.name ∷ Left ∷ (flat_map demand m.demands ++ Right ∷ more)
matrix_parts m more = ap (λ (l : List Symbol). Name m.name ∷ Left ∷ l) (append_assoc (flat_map demand m.demands) (Right ∷ []) more)

matrices_once : (ms ns : List MatrixEntry) → spelled ms ≡ spelled ns → ms ≡ ns
matrices_once [] [] h = refl
matrices_once [] (n ∷ ns) h = absurd cc
matrices_once (m ∷ ms) [] h = absurd cc
matrices_once (m ∷ ms) (n ∷ ns) h =
    let parts : Name m.name ∷ Left ∷ (flat_map demand m.demands ++ Right ∷ spelled ms) ≡ Name n.name ∷ Left ∷ (flat_map demand n.demands ++ Right ∷ spelled ns) =
    sym (matrix_parts m (spelled ms)) ∙ h ∙ matrix_parts n (spelled ns) in
    let name : m.name ≡ n.name = cc in
    let inside : flat_map demand m.demands ++ Right ∷ spelled ms ≡ flat_map demand n.demands ++ Right ∷ spelled ns = cc in
    let both = demands_once m.demands n.demands (spelled ms) (spelled ns) inside in
    let rest = matrices_once ms ns both.1 in
    let same : record { name = m.name; demands = m.demands } ≡ n = rw (name, both.0) refl in
    rw (same, rest) refl

pub list_once : ListIsUnique
list_once symbols ms ns a b = matrices_once ms ns (sym a ∙ b)
