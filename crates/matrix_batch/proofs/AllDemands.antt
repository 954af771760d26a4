-- The demands of all matrices, matrix after matrix.
use Rattle.std.proofs.Common.{◌≡◌, ℕ, ◌+◌, ◌<◌, List, [], ◌∷◌, ◌++◌, length, get_or, drop, take, map, refl, ap, sym, ◌∙◌, Option, Some, None}
use Rattle.std.proofs.lemmas.List.{drop_more, take_more, map-append}
use Rattle.sndlib_grammar.specs.Grammar.{DemandEntry}
use Rattle.sndlib_grammar.specs.Faults.{or_else, first_of, unknown_of_demand}
use Rattle.sndlib_grammar.specs.Rows.{NetRows, names_of_nodes}
use Rattle.matrix_batch.specs.declared.list_refusal.ListKind.TheVariants.{UnknownNode}
use Rattle.matrix_batch.specs.Faults.{all_demands, unknown_node}
use Rattle.matrix_batch.specs.declared.kept.MatrixWords.{MatrixWords}
use Rattle.matrix_batch.specs.declared.row.MatrixRows.{MatrixRows}
use Rattle.matrix_batch.specs.declared.read_end.ReadListEnd.{ReadListEnd}
use Rattle.matrix_batch.specs.declared.read_end.ReadListEnd.TheVariants.{Refused, Memory}
use Rattle.matrix_batch.specs.Lists.{named_demands, at_line}
use Rattle.matrix_batch.specs.ListAnswer.{matrix_view}
use Rattle.matrix_batch.specs.Names.{IsEnd}
use Rattle.matrix_batch.specs.ReadViews.{demand_view, entry_view}

first-append : {X : Type 0} (f : X → Option ℕ) (xs ys : List X) → first_of f (xs ++ ys) ≡ or_else (first_of f xs) (first_of f ys)
first-append f [] ys = refl
first-append f (x ∷ xs) ys = ap (or_else (f x)) (first-append f xs ys) ∙ flat (f x)
  where
    flat : (o : Option ℕ) → or_else o (or_else (first_of f xs) (first_of f ys)) ≡ or_else (or_else o (first_of f xs)) (first_of f ys)
    flat None = refl
    flat (Some n) = refl

-- what the first of all demands gives is what the next matrix gives, or else what the others give
pub first_left : (f : DemandEntry → Option ℕ) (ms : List MatrixWords) (i : ℕ) (m : MatrixWords) (o : Option ℕ) → i < length ms → m ≡ get_or ms i m → first_of f (map demand_view m.demands.items) ≡ o
    → first_of f (all_demands (map entry_view (drop i ms))) ≡ or_else o (first_of f (all_demands (map entry_view (drop (i + 1) ms))))
first_left f ms i m o h is own =
    let rest = all_demands (map entry_view (drop (i + 1) ms)) in
    ap (λ l. first_of f (all_demands (map entry_view l))) (drop_more ms i m h)
    ∙ ap (λ (x : MatrixWords). first_of f (map demand_view x.demands.items ++ rest)) (sym is)
    ∙ first-append f (map demand_view m.demands.items) rest
    ∙ ap (λ o. or_else o (first_of f rest)) own

-- where an end of the next matrix is no node
pub unknown_end : (rows : NetRows) (ms : List MatrixWords) (i : ℕ) (m : MatrixWords) (e : ReadListEnd) → i < length ms → m ≡ get_or ms i m → unknown_node rows (map entry_view (drop i ms)) ≡ unknown_node rows (map entry_view ms)
    → IsEnd UnknownNode (first_of (unknown_of_demand (names_of_nodes rows)) (map demand_view m.demands.items)) e → IsEnd UnknownNode (unknown_node rows (map entry_view ms)) e
unknown_end rows ms i m Memory h is same are = tt
unknown_end rows ms i m (Refused r) h is same are =
    let f = unknown_of_demand (names_of_nodes rows) in
    let rest = first_of f (all_demands (map entry_view (drop (i + 1) ms))) in
    ap (at_line UnknownNode) (sym same ∙ first_left f ms i m (first_of f (map demand_view m.demands.items)) h is refl) ∙ still (first_of f (map demand_view m.demands.items)) rest are
  where
    still : (o other : Option ℕ) → at_line UnknownNode o ≡ Some r → at_line UnknownNode (or_else o other) ≡ Some r
    still None other e = absurd cc
    still (Some n) other e = e

-- one more matrix
pub more_rows : (rows : NetRows) (ms : List MatrixWords) (i : ℕ) (m : MatrixWords) (old new : List MatrixRows) (r : MatrixRows) → i < length ms → m ≡ get_or ms i m → map matrix_view old ≡ map (named_demands rows) (map entry_view (take i ms))
    → new ≡ old ++ r ∷ [] → matrix_view r ≡ named_demands rows (entry_view m) → map matrix_view new ≡ map (named_demands rows) (map entry_view (take (i + 1) ms))
more_rows rows ms i m old new r h is so_far is_new one =
    ap (map matrix_view) is_new ∙ map-append matrix_view old (r ∷ [])
    ∙ ap (λ l. l ++ matrix_view r ∷ []) so_far
    ∙ ap (λ x. map (named_demands rows) (map entry_view (take i ms)) ++ x ∷ []) one
    ∙ sym (ap (λ l. map (named_demands rows) (map entry_view l)) (take_more ms i m h)
    ∙ ap (map (named_demands rows)) (map-append entry_view (take i ms) (get_or ms i m ∷ []))
    ∙ map-append (named_demands rows) (map entry_view (take i ms)) (entry_view (get_or ms i m) ∷ [])
    ∙ ap (λ (x : MatrixWords). map (named_demands rows) (map entry_view (take i ms)) ++ named_demands rows (entry_view x) ∷ []) (sym is))
