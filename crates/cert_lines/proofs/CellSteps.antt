-- Link ids, read one after the other.
use Rattle.std.proofs.Common.{◌≡◌, ℕ, ◌+◌, ◌<◌, ◌≤◌, true, false, List, [], ◌∷◌, ◌++◌, length, take, Option, Some, None, Result, Ok, Err, refl, sym, ap, ◌∙◌, append_assoc, arith}
use Rattle.std.specs.Prelude.{nat_lt, slice_set, MatchOption}
use Rattle.std.specs.Option.{option_map}
use Rattle.std.proofs.lemmas.List.{append-nil, take_more_set}
use Rattle.std.proofs.lemmas.Bool.Decides.{nat_tests}
use Rattle.text_lines.specs.Lines.{Line, words_of}
use Rattle.cert_lines.specs.Sheet.{Sheet, place_of}
use Rattle.cert_lines.specs.declared.refusal.CertKind.{CertKind}
use Rattle.cert_lines.specs.declared.refusal.CertKind.TheVariants.{UnknownName, TooLarge}
use Rattle.cert_lines.specs.Forms.{◌>>=◌, words_in}
use Rattle.cert_lines.specs.Rows.{cells_from}
use Rattle.mcf_limits.specs.declared.TheConstants.{MAX_PATH_CELLS}

-- what was read before, and what is still read
abbrev pub with_cells : List ℕ → Result (List ℕ) CertKind → Result (List ℕ) CertKind
with_cells front read = read >>= λ cells. Ok (front ++ cells)

regroup : (front : List ℕ) (c : ℕ) (read : Result (List ℕ) CertKind) → with_cells front (read >>= λ cells. Ok (c ∷ cells)) ≡ with_cells (front ++ c ∷ []) read
regroup front c (Ok cells) = ap (λ (l : List ℕ). Ok l) (sym (append_assoc front (c ∷ []) cells))
regroup front c (Err e) = refl

below : (count : ℕ) → count < MAX_PATH_CELLS → nat_lt count MAX_PATH_CELLS ≡ true
below count lt = grind (arith, nat_tests)

pub cell_on : (sheet : Sheet) (cells : List ℕ) (count : ℕ) (words ids : Line) (id : List ℕ) (c : ℕ) (total : Result (List ℕ) CertKind) → count < MAX_PATH_CELLS → length cells ≡ MAX_PATH_CELLS → words ≡ id ∷ ids → place_of sheet.cells id ≡ Some c
    → with_cells (take count cells) (cells_from sheet count words) ≡ total → with_cells (take (count + 1) (slice_set cells count c)) (cells_from sheet (count + 1) ids) ≡ total
unfolding cells_from
cell_on sheet cells count words ids id c total lt len e place so_far =
    let more = take_more_set cells count c (omega (arith, len)) in
    let step : with_cells (take count cells) (cells_from sheet count (id ∷ ids)) ≡ with_cells (take count cells ++ c ∷ []) (cells_from sheet (count + 1) ids) = rw (below count lt, place) (regroup (take count cells) c (cells_from sheet (count + 1) ids)) in
    ap (λ (l : List ℕ). with_cells l (cells_from sheet (count + 1) ids)) more ∙ sym step ∙ sym (ap (λ (ws : Line). with_cells (take count cells) (cells_from sheet count ws)) e) ∙ so_far

pub cell_unknown : (sheet : Sheet) (front : List ℕ) (count : ℕ) (words ids : Line) (id : List ℕ) (total : Result (List ℕ) CertKind) → count < MAX_PATH_CELLS → words ≡ id ∷ ids → place_of sheet.cells id ≡ None
    → with_cells front (cells_from sheet count words) ≡ total → Err UnknownName ≡ total
unfolding cells_from
cell_unknown sheet front count words ids id total lt e place so_far =
    let step : with_cells front (cells_from sheet count (id ∷ ids)) ≡ Err UnknownName = rw (below count lt, place) refl in
    sym step ∙ sym (ap (λ (ws : Line). with_cells front (cells_from sheet count ws)) e) ∙ so_far

pub cell_over : (sheet : Sheet) (front : List ℕ) (count : ℕ) (words ids : Line) (id : List ℕ) (total : Result (List ℕ) CertKind) → MAX_PATH_CELLS ≤ count → words ≡ id ∷ ids
    → with_cells front (cells_from sheet count words) ≡ total → Err TooLarge ≡ total
unfolding cells_from
cell_over sheet front count words ids id total le e so_far =
    let past : nat_lt count MAX_PATH_CELLS ≡ false = grind (arith, nat_tests) in
    let step : with_cells front (cells_from sheet count (id ∷ ids)) ≡ Err TooLarge = rw past refl in
    sym step ∙ sym (ap (λ (ws : Line). with_cells front (cells_from sheet count ws)) e) ∙ so_far

pub cells_end : (sheet : Sheet) (front : List ℕ) (count : ℕ) (words : Line) (total : Result (List ℕ) CertKind) → words ≡ [] → with_cells front (cells_from sheet count words) ≡ total → Ok front ≡ total
unfolding cells_from
cells_end sheet front count words total e so_far =
    ap (λ (l : List ℕ). Ok l) (sym (append-nil front)) ∙ sym (ap (λ (ws : Line). with_cells front (cells_from sheet count ws)) e) ∙ so_far

-- a line is its first word and the words of what follows
pub split_is : {X : Type 0} (f : X → List ℕ) (line id : List ℕ) (rest : Option X) → MatchOption rest (words_of line ≡ id ∷ []) (λ r. words_of line ≡ id ∷ words_of (f r)) → words_of line ≡ id ∷ words_in (option_map f rest)
split_is f line id None h = h
split_is f line id (Some r) h = h
