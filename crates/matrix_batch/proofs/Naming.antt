-- Names of matrices and ids of demands, kept in a set.
use Rattle.std.proofs.Common.{◌≡◌, ℕ, ◌+◌, ◌<◌, Bool, true, false, List, [], ◌∷◌, ◌++◌, length, get_or, drop, ap, sym, ◌∙◌, Bor, Option, Some, None}
use Rattle.std.specs.Prelude.{map, if◌then◌else◌}
use Rattle.std.specs.List.{list_any}
use Rattle.std.specs.Str.{bytes_eq}
use Rattle.std.proofs.lemmas.List.{drop_more, map-append}
use Rattle.sndlib_grammar.specs.Grammar.{Word}
use Rattle.sndlib_grammar.specs.Faults.{first_repeated, is_among, line_of}
use Rattle.sndlib_rows.specs.Views.{bytes_of}
use Rattle.sndlib_rows.proofs.Naming.{any-bytes_of}
use Rattle.matrix_batch.specs.Faults.{repeated, line_if_among}
use Rattle.unit_scale.specs.Scaling.{or_else}
use Rattle.matrix_batch.specs.declared.kept.Word.{Word as WordSlice}
use Rattle.matrix_batch.specs.declared.kept.DemandWords.{DemandWords}
use Rattle.matrix_batch.specs.declared.kept.MatrixWords.{MatrixWords}
use Rattle.matrix_batch.specs.declared.list_refusal.ListKind.TheVariants.{Duplicate}
use Rattle.matrix_batch.specs.declared.read_end.ReadListEnd.{ReadListEnd}
use Rattle.matrix_batch.specs.declared.read_end.ReadListEnd.TheVariants.{Refused, Memory}
use Rattle.matrix_batch.specs.Lists.{at_line}
use Rattle.matrix_batch.specs.Names.{IsEnd}
use Rattle.matrix_batch.specs.Stored.{demand_ids}
use Rattle.matrix_batch.specs.ReadViews.{word_view, demand_view, entry_view}

abbrev no_slice : WordSlice
no_slice = record { text = record { ref_ptr = (0, 0); now = [] }; line = 0 }

abbrev pub no_demand : DemandWords
no_demand = record { id = no_slice; source = no_slice; target = no_slice; unit = no_slice; value = no_slice; longest = no_slice }

-- one more name, and whether it is among those before
pub more_bytes : (known : List (Bor (List ℕ))) (w : Bor (List ℕ)) → bytes_of (known ++ w ∷ []) ≡ bytes_of known ++ w.now ∷ []
more_bytes known w = map-append (λ (k : Bor (List ℕ)). k.now) known (w ∷ [])

among : (known : List (Bor (List ℕ))) (w : WordSlice) (b : Bool) → list_any (λ k. bytes_eq w.text.now k.now) known ≡ b → is_among (bytes_of known) (word_view w) ≡ b
among known w b e = sym (any-bytes_of w.text.now known) ∙ e

-- ---- ids

abbrev ids_left : List DemandWords → List Word
ids_left ds = demand_ids (map demand_view ds)

pub new_id : (known : List (Bor (List ℕ))) (ds : List DemandWords) (i : ℕ) (none : DemandWords) → i < length ds → list_any (λ k. bytes_eq (get_or ds i none).id.text.now k.now) known ≡ false
    → first_repeated (bytes_of (known ++ (get_or ds i none).id.text ∷ [])) (ids_left (drop (i + 1) ds)) ≡ first_repeated (bytes_of known) (ids_left (drop i ds))
new_id known ds i none h new =
    let id = (get_or ds i none).id in
    let w = word_view id in
    let ws = ids_left (drop (i + 1) ds) in
    ap (λ ks. first_repeated ks ws) (more_bytes known id.text)
    ∙ sym (ap (λ (b : Bool). if b then Some w else first_repeated (bytes_of known ++ w.text ∷ []) ws) (among known id false new))
    ∙ ap (λ l. first_repeated (bytes_of known) (ids_left l)) (sym (drop_more ds i none h))

pub old_id : (known : List (Bor (List ℕ))) (ds : List DemandWords) (i : ℕ) (none : DemandWords) → i < length ds → list_any (λ k. bytes_eq (get_or ds i none).id.text.now k.now) known ≡ true
    → first_repeated (bytes_of known) (ids_left (drop i ds)) ≡ Some (word_view (get_or ds i none).id)
old_id known ds i none h old =
    let id = (get_or ds i none).id in
    let w = word_view id in
    let ws = ids_left (drop (i + 1) ds) in
    ap (λ l. first_repeated (bytes_of known) (ids_left l)) (drop_more ds i none h)
    ∙ ap (λ (b : Bool). if b then Some w else first_repeated (bytes_of known ++ w.text ∷ []) ws) (among known id true old)

-- ---- names

abbrev own_id : MatrixWords → Option ℕ
own_id m = line_of (first_repeated [] (demand_ids (entry_view m).demands))

first_matrix : (known : List (Bor (List ℕ))) (ms : List MatrixWords) (i : ℕ) (m : MatrixWords) → i < length ms → m ≡ get_or ms i m
    → repeated (bytes_of known) (map entry_view (drop i ms)) ≡ repeated (bytes_of known) (entry_view m ∷ map entry_view (drop (i + 1) ms))
first_matrix known ms i m h is =
    ap (λ l. repeated (bytes_of known) (map entry_view l)) (drop_more ms i m h)
    ∙ ap (λ (x : MatrixWords). repeated (bytes_of known) (entry_view x ∷ map entry_view (drop (i + 1) ms))) (sym is)

by_name : (known : List (Bor (List ℕ))) (m : MatrixWords) (b : Bool) → list_any (λ k. bytes_eq m.name.text.now k.now) known ≡ b → line_if_among (bytes_of known) (word_view m.name) ≡ (if b then Some m.name.line else None)
by_name known m b e = ap (λ (c : Bool). if c then Some m.name.line else None) (among known m.name b e)

pub old_name : (known : List (Bor (List ℕ))) (ms : List MatrixWords) (i : ℕ) (m : MatrixWords) → i < length ms → m ≡ get_or ms i m → list_any (λ k. bytes_eq m.name.text.now k.now) known ≡ true
    → repeated (bytes_of known) (map entry_view (drop i ms)) ≡ Some m.name.line
old_name known ms i m h is old =
    first_matrix known ms i m h is
    ∙ ap (λ o. or_else o (or_else (own_id m) (repeated (bytes_of known ++ m.name.text.now ∷ []) (map entry_view (drop (i + 1) ms))))) (by_name known m true old)

-- where the name is new: the first id that stands twice, or what is left
pub new_name : (known : List (Bor (List ℕ))) (ms : List MatrixWords) (i : ℕ) (m : MatrixWords) (o : Option ℕ) → i < length ms → m ≡ get_or ms i m → list_any (λ k. bytes_eq m.name.text.now k.now) known ≡ false
    → own_id m ≡ o → repeated (bytes_of known) (map entry_view (drop i ms)) ≡ or_else o (repeated (bytes_of (known ++ m.name.text ∷ [])) (map entry_view (drop (i + 1) ms)))
new_name known ms i m o h is new own =
    first_matrix known ms i m h is
    ∙ ap (λ o. or_else o (or_else (own_id m) (repeated (bytes_of known ++ m.name.text.now ∷ []) (map entry_view (drop (i + 1) ms))))) (by_name known m false new)
    ∙ ap (λ p. or_else p (repeated (bytes_of known ++ m.name.text.now ∷ []) (map entry_view (drop (i + 1) ms)))) own
    ∙ ap (λ ks. or_else o (repeated ks (map entry_view (drop (i + 1) ms)))) (sym (more_bytes known m.name.text))

-- where an id stands twice
pub repeated_id : (o other all : Option ℕ) (e : ReadListEnd) → all ≡ or_else o other → IsEnd Duplicate o e → IsEnd Duplicate all e
repeated_id o other all Memory is h = tt
repeated_id None other all (Refused r) is h = absurd cc
repeated_id (Some n) other all (Refused r) is h = ap (at_line Duplicate) is ∙ h
