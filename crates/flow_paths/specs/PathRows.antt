-- Path rows, as a store keeps them and as the model sees them.
use Rattle.std.specs.Prelude.{◌≡◌, ◌⊎◌, ℕ, ◌+◌, ◌^◌, ◌<◌, ◌≤◌, List, [], ◌∷◌, ◌++◌, length, take, drop, All, map, slice_index_or, slice_set}
use Rattle.flow_model.specs.Routing.{Row}
use Rattle.flow_paths.specs.declared.row_buffer.PathRow.{PathRow}
use Rattle.mcf_limits.specs.declared.TheConstants.{MAX_LENGTH}

abbrev pub row_of : List ℕ → PathRow → Row
row_of cells r = record { commodity = r.commodity; walk = take r.len (drop r.start cells); weight = r.weight }

abbrev pub rows_of : List ℕ → List PathRow → List Row
rows_of cells rows = map (row_of cells) rows

-- few enough rows, none of too great a weight, each within the buffer
pub record AreRows (cells : List ℕ) (rows : List PathRow) : Type 0 where
  pub count : length rows < 2 ^ 32
  pub weights : All (λ r. r.weight ≤ MAX_LENGTH) rows
  pub places : All (λ r. r.start + r.len ≤ length cells) rows

abbrev pub no_row : Row
no_row = record { commodity = 0; walk = []; weight = 0 }

-- the row of that number
abbrev pub row_at : List Row → ℕ → Row
row_at rows i = slice_index_or rows i no_row

-- the row is of this commodity and path
abbrev pub HasPath : ℕ → List ℕ → Row → Type 0
HasPath k path row = (row.commodity ≡ k) × (row.walk ≡ path)

-- the row is the first of this commodity and path
pub record IsFirstRow (rows : List Row) (k : ℕ) (path : List ℕ) (n : ℕ) : Type 0 where
  pub within : n < length rows
  pub here : HasPath k path (row_at rows n)
  pub none_before : (j : ℕ) → j < n → ¬ (HasPath k path (row_at rows j))

-- no row is of this commodity and path
abbrev pub HasNoRow : List Row → ℕ → List ℕ → Type 0
HasNoRow rows k path = (j : ℕ) → j < length rows → ¬ (HasPath k path (row_at rows j))

-- none of the first n rows is of this commodity and path
abbrev pub HasNoRowBelow : ℕ → List Row → ℕ → List ℕ → Type 0
HasNoRowBelow n rows k path = (j : ℕ) → j < n → ¬ (HasPath k path (row_at rows j))

-- the rows, with a greater weight at that number
abbrev pub grown : List Row → ℕ → ℕ → List Row
grown rows n amount = slice_set rows n (record { commodity = (row_at rows n).commodity; walk = (row_at rows n).walk; weight = (row_at rows n).weight + amount })

-- the first row of this commodity and path has grown by the amount, or there was none and it stands at the end
abbrev pub Adds : List Row → List Row → ℕ → List ℕ → ℕ → ℕ → Type 0
Adds old new k path amount n = (IsFirstRow old k path n × (new ≡ grown old n amount)) ⊎ (HasNoRow old k path × (n ≡ length old) × (new ≡ old ++ record { commodity = k; walk = path; weight = amount } ∷ []))
