-- The rows as the model sees them, after a row was appended or has grown.
use Rattle.std.proofs.Common.{◌≡◌, ℕ, ◌+◌, ◌<◌, ◌≤◌, List, [], ◌∷◌, ◌++◌, length, get_or, set, take, drop, sym, ap, ◌∙◌, arith, refl}
use Rattle.std.specs.Prelude.{All, map}
use Rattle.std.proofs.lemmas.List.{length_push, length-append, length-drop, length-map, length-set, map_push, map-set, get_or-map, set-get_or, drop-append-le, take-append-le, drop_at, take_all, take_more}
use Rattle.std.proofs.lemmas.List.Elements.{All-head, All-tail, All-push, All-set, All-get_or, All-weaker}
use Rattle.flow_model.specs.Routing.{Row}
use Rattle.flow_paths.specs.declared.row_buffer.PathRow.{PathRow}
use Rattle.flow_paths.specs.KeyIndex.{IsIndexOf}
use Rattle.flow_paths.specs.PathKey.{row_key}
use Rattle.flow_paths.specs.PathRows.{row_of, rows_of, AreRows, no_row, row_at, grown}
use Rattle.mcf_limits.specs.declared.TheConstants.{MAX_LENGTH}

abbrev pub row_grown : PathRow → ℕ → PathRow
row_grown r amount = record { commodity = r.commodity; start = r.start; len = r.len; weight = r.weight + amount }

walk_kept : (cells path : List ℕ) (start len : ℕ) → start + len ≤ length cells → take len (drop start (cells ++ path)) ≡ take len (drop start cells)
walk_kept cells path start len inside =
    let front : drop start (cells ++ path) ≡ drop start cells ++ path = drop-append-le start cells path (omega arith) in
    ap (take len) front ∙ take-append-le len (drop start cells) path (rw length-drop (omega arith))

rows_kept : (cells path : List ℕ) (rows : List PathRow) → All (λ r. r.start + r.len ≤ length cells) rows → rows_of (cells ++ path) rows ≡ rows_of cells rows
rows_kept cells path [] places = refl
rows_kept cells path (r ∷ rows) places =
    let first : take r.len (drop r.start (cells ++ path)) ≡ take r.len (drop r.start cells) = walk_kept cells path r.start r.len (All-head (λ s. s.start + s.len ≤ length cells) r rows places) in
    let rest = rows_kept cells path rows (All-tail (λ s. s.start + s.len ≤ length cells) r rows places) in
    rw (first, rest) refl

abbrev pub appended : ℕ → ℕ → List ℕ → List ℕ → PathRow
appended k weight cells path = record { commodity = k; start = length cells; len = length path; weight = weight }

new_walk : (cells path : List ℕ) → take (length path) (drop (length cells) (cells ++ path)) ≡ path
new_walk cells path = ap (take (length path)) (drop_at cells path (length cells) refl) ∙ take_all (length path) path (omega arith)

pub rows_of-push : (cells path : List ℕ) (rows : List PathRow) (k weight : ℕ) → All (λ r. r.start + r.len ≤ length cells) rows
    → rows_of (cells ++ path) (rows ++ appended k weight cells path ∷ []) ≡ rows_of cells rows ++ record { commodity = k; walk = path; weight = weight } ∷ []
rows_of-push cells path rows k weight places =
    map_push (row_of (cells ++ path)) rows (appended k weight cells path) ∙ rw (rows_kept cells path rows places, new_walk cells path) refl

pub AreRows-push : (cells path : List ℕ) (rows : List PathRow) (k weight : ℕ) → length rows < 4294967295 → weight ≤ MAX_LENGTH → AreRows cells rows
    → AreRows (cells ++ path) (rows ++ appended k weight cells path ∷ [])
AreRows-push cells path rows k weight room light h = record {
  count = rw length_push (omega arith);
  weights = All-push (λ r. r.weight ≤ MAX_LENGTH) rows (appended k weight cells path) h.weights light;
  places =
      let longer = length-append cells path in
      All-push (λ r. r.start + r.len ≤ length (cells ++ path)) rows (appended k weight cells path)
      (All-weaker (λ r. r.start + r.len ≤ length cells) (λ r. r.start + r.len ≤ length (cells ++ path)) (λ r inside. omega arith) rows h.places)
      (omega arith);
}

pub rows_of-grow : (cells : List ℕ) (rows : List PathRow) (n amount : ℕ) (r : PathRow) → n < length rows → r ≡ get_or rows n r → rows_of cells (set rows n (row_grown r amount)) ≡ grown (rows_of cells rows) n amount
rows_of-grow cells rows n amount r lt is =
    let at : get_or (rows_of cells rows) n no_row ≡ row_of cells r = get_or-map (row_of cells) rows n r no_row lt ∙ ap (row_of cells) (sym is) in
    map-set (row_of cells) rows n (row_grown r amount) ∙ rw at refl

pub keys-grow : (rows : List Row) (n amount : ℕ) → n < length rows → map row_key (grown rows n amount) ≡ map row_key rows
keys-grow rows n amount lt =
    map-set row_key rows n (record { commodity = (row_at rows n).commodity; walk = (row_at rows n).walk; weight = (row_at rows n).weight + amount })
    ∙ ap (λ k. set (map row_key rows) n k) (sym (get_or-map row_key rows n no_row 0 lt)) ∙ set-get_or (map row_key rows) n 0

pub AreRows-grow : (cells : List ℕ) (rows : List PathRow) (n amount : ℕ) (r : PathRow) → n < length rows → r ≡ get_or rows n r → (row_at (rows_of cells rows) n).weight + amount ≤ MAX_LENGTH → AreRows cells rows
    → AreRows cells (set rows n (row_grown r amount))
AreRows-grow cells rows n amount r lt is light h =
    let at : get_or (rows_of cells rows) n no_row ≡ row_of cells r = get_or-map (row_of cells) rows n r no_row lt ∙ ap (row_of cells) (sym is) in
    let weight : r.weight + amount ≤ MAX_LENGTH = rw at at light in
    let place : r.start + r.len ≤ length cells = rw is (All-get_or (λ s. s.start + s.len ≤ length cells) rows n r lt h.places) in
    record {
      count = rw length-set h.count;
      weights = All-set (λ s. s.weight ≤ MAX_LENGTH) rows n (row_grown r amount) weight h.weights;
      places = All-set (λ s. s.start + s.len ≤ length cells) rows n (row_grown r amount) place h.places;
    }

-- an index of the first rows stays one where a row is appended
pub IsIndexOf-push : (keys : List ℕ) (rows : List Row) (r : Row) → IsIndexOf keys rows → IsIndexOf keys (rows ++ r ∷ [])
IsIndexOf-push keys rows r h =
    let len = length-map rows row_key in
    record {
      within = omega (arith, length_push rows r, h.within);
      keys_are = h.keys_are ∙ sym (ap (take (length keys)) (map_push row_key rows r) ∙ take-append-le (length keys) (map row_key rows) (row_key r ∷ []) (omega (arith, h.within)));
    }

-- and where a row's weight has grown
pub IsIndexOf-grow : (keys : List ℕ) (rows : List Row) (n amount : ℕ) → n < length rows → IsIndexOf keys rows → IsIndexOf keys (grown rows n amount)
IsIndexOf-grow keys rows n amount lt h = record {
  within = rw length-set h.within;
  keys_are = h.keys_are ∙ ap (take (length keys)) (sym (keys-grow rows n amount lt));
}

-- the key of the next row
pub IsIndexOf-next : (keys : List ℕ) (rows : List Row) (i key : ℕ) → length keys ≡ i → i < length rows → key ≡ row_key (row_at rows i) → IsIndexOf keys rows → IsIndexOf (keys ++ key ∷ []) rows
IsIndexOf-next keys rows i key at lt is h =
    let len = length-map rows row_key in
    let inside : i < length (map row_key rows) = omega arith in
    let there : get_or (map row_key rows) i 0 ≡ key = get_or-map row_key rows i no_row 0 lt ∙ sym is in
    record {
      within = omega (arith, length_push keys key);
      keys_are = rw (length_push, at, take_more (map row_key rows) i 0 inside, there, ← at) (ap (λ ks. ks ++ key ∷ []) h.keys_are);
    }

-- an index of as many keys as there are rows has all of them
pub IsIndexOf-whole : (keys : List ℕ) (rows : List Row) → length rows ≤ length keys → IsIndexOf keys rows → keys ≡ map row_key rows
IsIndexOf-whole keys rows all h = h.keys_are ∙ take_all (length keys) (map row_key rows) (omega (arith, length-map rows row_key))
