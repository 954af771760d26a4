-- The duals that are there, behind references, and their rows.
use Rattle.std.proofs.Common.{◌≡◌, ℕ, ◌+◌, ◌<◌, Bor, List, [], ◌∷◌, ◌++◌, length, get_or, map, take, sym, ap, subst, ◌∙◌, append_assoc}
use Rattle.std.specs.Prelude.{All}
use Rattle.std.proofs.lemmas.List.{append-nil, get_or-map, length-map, map_push, take_more}
use Rattle.std.proofs.lemmas.List.Concat.{flat_map-append}
use Rattle.std.proofs.lemmas.List.Elements.{All-map, All-push}
use Rattle.flow_paths.specs.DualRows.{Potential, DualRows, no_potential}
use Rattle.cut_bound.specs.declared.choice.RowPlace.{RowPlace}
use Rattle.cut_bound.specs.Candidates.{no_dual, rows_in}
use Rattle.cut_bound.specs.Search.{own_at, row_at, seen, IsRowPlace}

pub seen-at : (own : List (Bor DualRows)) (i : ℕ) (d : Bor DualRows) → i < length own → own_at (seen own) i ≡ (get_or own i d).now
seen-at own i d l = get_or-map (λ (x : Bor DualRows). x.now) own i d no_dual l

pub seen-length : (own : List (Bor DualRows)) → length (seen own) ≡ length own
seen-length own = length-map own (λ (x : Bor DualRows). x.now)

pub seen-all : (P : DualRows → Type 0) (own : List (Bor DualRows)) → All (λ (x : Bor DualRows). P x.now) own → All P (seen own)
seen-all P own h = All-map P (λ (x : Bor DualRows). x.now) own h

-- the rows of one dual more
pub rows-in-more : (own : List DualRows) (i : ℕ) → i < length own → rows_in (take i own) ++ (own_at own i).potentials ≡ rows_in (take (i + 1) own)
rows-in-more own i l =
    ap (λ (rows : List Potential). rows_in (take i own) ++ rows) (sym (append-nil (own_at own i).potentials))
    ∙ (sym (flat_map-append (λ (d : DualRows). d.potentials) (take i own) (own_at own i ∷ []))
    ∙ ap rows_in (sym (take_more own i no_dual l)))

mk : ℕ → ℕ → RowPlace
mk dual row = record { dual = dual; row = row }

-- one row more
pub row-push : (own : List DualRows) (rows new : List RowPlace) (before : List Potential) (dual row : ℕ) → row < length (own_at own dual).potentials → new ≡ rows ++ record { dual = dual; row = row } ∷ []
    → map (row_at own) rows ≡ before ++ take row (own_at own dual).potentials → map (row_at own) new ≡ before ++ take (row + 1) (own_at own dual).potentials
unfolding mk
row-push own rows new before dual row l e h =
    ap (map (row_at own)) e ∙ (map_push (row_at own) rows (mk dual row)
    ∙ (ap (λ (ps : List Potential). ps ++ row_at own (mk dual row) ∷ []) h
    ∙ (append_assoc before (take row (own_at own dual).potentials) (row_at own (mk dual row) ∷ [])
    ∙ ap (λ (ps : List Potential). before ++ ps) (sym (take_more (own_at own dual).potentials row no_potential l)))))

pub place-push : (own : List DualRows) (rows new : List RowPlace) (dual row : ℕ) → dual < length own → row < length (own_at own dual).potentials → new ≡ rows ++ record { dual = dual; row = row } ∷ []
    → All (IsRowPlace own) rows → All (IsRowPlace own) new
place-push own rows new dual row inside l e h =
    subst (λ (rs : List RowPlace). All (IsRowPlace own) rs) (sym e) (All-push (IsRowPlace own) rows (record { dual = dual; row = row }) h (record { dual = inside; row = l }))
