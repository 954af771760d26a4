-- Rows of paths, lengths and potentials, each read from left to right with the first fault that is met.
use Rattle.std.specs.Prelude.{ℕ, ◌+◌, List, [], ◌∷◌, length, Option, Some, None, Result, Ok, Err, nat_lt, nat_eq, codes, if◌then◌else◌}
use Rattle.text_lines.specs.Lines.{Line}
use Rattle.flow_model.specs.Routing.{Row}
use Rattle.flow_paths.specs.DualRows.{Length, Potential}
use Rattle.cert_lines.specs.Sheet.{Sheet, place_of}
use Rattle.mcf_limits.specs.declared.TheConstants.{MAX_LENGTH, MAX_PATH_CELLS}
use Rattle.cert_lines.specs.declared.refusal.CertKind.{CertKind}
use Rattle.cert_lines.specs.declared.refusal.CertKind.TheVariants.{Syntax, UnknownName, TooLarge}
use Rattle.cert_lines.specs.Forms.{◌>>=◌, or_fault, two_behind, list_behind, row_behind}
use Rattle.cert_lines.specs.Numbers.{number_within}

-- `length`, a cell's word and a number
unfoldable pub length_row : Sheet → Line → Result Length CertKind
length_row sheet words = do
  parts ← or_fault Syntax (two_behind (codes "length") words)
  cell ← or_fault UnknownName (place_of sheet.cells parts.0)
  value ← number_within MAX_LENGTH parts.1
  Ok (record { cell = cell; value = value })

-- the cells of these words, where `count` cells stand before them: a path has no more than the limit
unfoldable pub cells_from : Sheet → ℕ → Line → Result (List ℕ) CertKind
cells_from sheet count [] = Ok []
cells_from sheet count (word ∷ words) = if nat_lt count MAX_PATH_CELLS
    then (do
      cell ← or_fault UnknownName (place_of sheet.cells word)
      cells ← cells_from sheet (count + 1) words
      Ok (cell ∷ cells))
    else Err TooLarge

-- `path`, a commodity's word, a weight, and cells' words
unfoldable pub path_row : Sheet → Line → Result Row CertKind
path_row sheet words = do
  parts ← or_fault Syntax (row_behind (codes "path") words)
  commodity ← or_fault UnknownName (place_of sheet.commodities parts.0)
  weight ← number_within MAX_LENGTH parts.1
  walk ← cells_from sheet 0 parts.2
  Ok (record { commodity = commodity; walk = walk; weight = weight })

-- each word a potential
unfoldable pub potentials_from : Line → Result (List ℕ) CertKind
potentials_from [] = Ok []
potentials_from (word ∷ words) = do
  value ← number_within MAX_LENGTH word
  values ← potentials_from words
  Ok (value ∷ values)

-- a node's word and `count` words behind it, none of them empty
abbrev pub of_that_many : ℕ → Option (List ℕ × Line) → Option (List ℕ × Line)
of_that_many count None = None
of_that_many count (Some parts) = if nat_eq (length parts.1) count then Some parts else None

-- `potential`, a node's word, and one number for each node
unfoldable pub potential_row : Sheet → Line → Result Potential CertKind
potential_row sheet words = do
  parts ← or_fault Syntax (of_that_many (length sheet.nodes) (list_behind (codes "potential") words))
  node ← or_fault UnknownName (place_of sheet.nodes parts.0)
  values ← potentials_from parts.1
  Ok (record { node = node; values = values })
