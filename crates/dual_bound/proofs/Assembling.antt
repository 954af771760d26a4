-- A dual grows by one row at a time.
use Rattle.std.proofs.Common.{◌≡◌, ℕ, zero, suc, ◌+◌, ◌<◌, List, [], ◌∷◌, ◌++◌, length, get_or, take, refl, sym, ap, ◌∙◌, arith, add-one}
use Rattle.std.proofs.lemmas.List.{map-append, take_more}
use Rattle.flow_paths.specs.DualRows.{Length, Potential, DualRows}
use Rattle.dual_bound.specs.Bounds.{length_rows}
use Rattle.dual_bound.specs.declared.rows.Row.{Row}
use Rattle.dual_bound.specs.Rows.{dual_of, potential_of, potentials_of}

length_rows-more : (a i : ℕ) (xs : List ℕ) → i < length xs → length_rows a (take (suc i) xs) ≡ length_rows a (take i xs) ++ record { cell = a + i; value = get_or xs i 0 } ∷ []
length_rows-more a i [] l = absurd (omega arith)
length_rows-more a zero (x ∷ xs) l = let e : a + 0 ≡ a = omega arith in rw e refl
length_rows-more a (suc i) (x ∷ xs) l =
    let e : a + 1 + i ≡ a + suc i = omega arith in
    ap (λ (rows : List Length). record { cell = a; value = x } ∷ rows)
    (length_rows-more (a + 1) i xs (omega arith) ∙ ap (λ (n : ℕ). length_rows (a + 1) (take i xs) ++ record { cell = n; value = get_or xs i 0 } ∷ []) e)

mk : List Length → List Potential → DualRows
mk a b = record { lengths = a; potentials = b }

-- one more length
pub lengths-more : (xs : List ℕ) (i x : ℕ) (dual new : DualRows) → i < length xs → x ≡ get_or xs i 0 → dual ≡ dual_of (take i xs) []
    → new ≡ record { lengths = dual.lengths ++ record { cell = i; value = x } ∷ []; potentials = dual.potentials } → new ≡ dual_of (take (i + 1) xs) []
unfolding mk
lengths-more xs i x dual new l is e n =
    let zeroth : 0 + i ≡ i = omega arith in
    let more : length_rows 0 (take (i + 1) xs) ≡ length_rows 0 (take i xs) ++ record { cell = i; value = x } ∷ []
    = rw add-one (length_rows-more 0 i xs l ∙ ap (λ (c : ℕ). length_rows 0 (take i xs) ++ record { cell = c; value = get_or xs i 0 } ∷ []) zeroth ∙ ap (λ (y : ℕ). length_rows 0 (take i xs) ++ record { cell = i; value = y } ∷ []) (sym is)) in
    n ∙ (ap (λ (d : DualRows). mk (d.lengths ++ record { cell = i; value = x } ∷ []) d.potentials) e ∙ ap (λ (rows : List Length). mk rows []) (sym more))

-- one more row
pub rows-more : (lengths : List ℕ) (rows : List Row) (i : ℕ) (x : Row) (dual new : DualRows) → i < length rows → get_or rows i x ≡ x → dual ≡ dual_of lengths (take i rows)
    → new ≡ record { lengths = dual.lengths; potentials = dual.potentials ++ potential_of x ∷ [] } → new ≡ dual_of lengths (take (i + 1) rows)
unfolding mk
rows-more lengths rows i x dual new l is e n =
    let more : potentials_of (take (i + 1) rows) ≡ potentials_of (take i rows) ++ potential_of x ∷ []
    = ap potentials_of (take_more rows i x l) ∙ (map-append potential_of (take i rows) (get_or rows i x ∷ []) ∙ ap (λ (r : Row). potentials_of (take i rows) ++ potential_of r ∷ []) is) in
    n ∙ (ap (λ (d : DualRows). mk d.lengths (d.potentials ++ potential_of x ∷ [])) e ∙ ap (λ (ps : List Potential). mk (length_rows 0 lengths) ps) (sym more))
