-- What the kind of a refusal says of a line of a certificate or routing, with hop limits and of totals too.
use Rattle.std.specs.Prelude.{◌≡◌, ℕ, ◌+◌, ◌-◌, ◌*◌, ◌<◌, ◌≤◌, ◌++◌, Bool, true, false, List, [], ◌∷◌, length, map, take, drop, Option, Some, None, ◌&&◌, codes, option_and_then}
use Rattle.std.specs.List.{AllByRecursion}
use Rattle.std.specs.Option.{option_map}
use Rattle.std.specs.Str.Parse.{digits_value}
use Rattle.text_lines.specs.Lines.{Line}
use Rattle.gap_fraction.specs.declared.fraction.TheConstants.{MAX_PART}
use Rattle.mcf_limits.specs.declared.TheConstants.{MAX_GAP, MAX_HOPS, MAX_LENGTH, MAX_PATH_CELLS, MAX_PHASES, MAX_UNITS}
use Rattle.cert_lines.specs.Sheet.{Sheet, place_of}
use Rattle.cert_lines.specs.declared.refusal.CertKind.{CertKind}
use Rattle.cert_lines.specs.declared.refusal.CertKind.TheVariants.{Syntax, UnknownName, BadNumber, TooLarge}
use Rattle.cert_lines.specs.Forms.{one_behind, two_behind, list_behind, row_behind, stroke_parts}
use Rattle.cert_lines.specs.Numbers.{is_number, is_micro, micro_value}
use Rattle.cert_lines.specs.Rows.{of_that_many}
use Rattle.kind_texts.specs.HopsRead.{with_count}

-- what a word of a line has to be: one of these names; a number, or a decimal in millionths, up to a limit; or not there
pub data Sort : Type 0 where
  name : List (List ℕ) → Sort
  number : ℕ → Sort
  decimal : ℕ → Sort
  nothing : Sort

-- a word, and what it has to be
abbrev pub Sorted : Type 0
Sorted = Sort × List ℕ

-- a number, a point and six digits
abbrev pub is_decimal : List ℕ → Bool
is_decimal word = is_micro (drop (length word - 7) word) && is_number (take (length word - 7) word)

-- its value in millionths
abbrev pub millionths : List ℕ → ℕ
millionths word = digits_value 10 (take (length word - 7) word) * 1000000 + micro_value (drop (length word - 7) word)

-- the word is what it has to be
abbrev pub IsRight : Sorted → Type 0
IsRight (name names, word) = (i : ℕ) × (place_of names word ≡ Some i)
IsRight (number most, word) = (is_number word ≡ true) × (digits_value 10 word ≤ most)
IsRight (decimal most, word) = (is_decimal word ≡ true) × (millionths word ≤ most)
IsRight (nothing, word) = ⊥

-- it is not: no such name; no number; a number over its limit, or a word too many
abbrev pub IsWrong : Sorted → CertKind → Type 0
IsWrong (name names, word) UnknownName = place_of names word ≡ None
IsWrong (number most, word) BadNumber = is_number word ≡ false
IsWrong (number most, word) TooLarge = (is_number word ≡ true) × (most < digits_value 10 word)
IsWrong (decimal most, word) BadNumber = is_decimal word ≡ false
IsWrong (decimal most, word) TooLarge = (is_decimal word ≡ true) × (most < millionths word)
IsWrong (nothing, word) TooLarge = Unit {0}
IsWrong word kind = ⊥

-- the kind is that of the first word that is wrong
pub record IsFirstWrong (words : List Sorted) (kind : CertKind) : Type 0 where
  pub before : List Sorted
  pub word : Sorted
  pub after : List Sorted
  pub parts : words ≡ before ++ word ∷ after
  pub right : AllByRecursion IsRight before
  pub wrong : IsWrong word kind

-- the line has not its form, or has it with these words, of which the first that is wrong has this kind
abbrev pub IsLineFault : Option (List Sorted) → CertKind → Type 0
IsLineFault None kind = kind ≡ Syntax
IsLineFault (Some words) kind = IsFirstWrong words kind

-- ---- the words of each line that has its form

abbrev pub gap_form : Line → Option (List Sorted)
gap_form line = option_map (λ word. (decimal MAX_GAP, word) ∷ []) (one_behind (codes "gap") line)

abbrev pub phases_form : Line → Option (List Sorted)
phases_form line = option_map (λ word. (number MAX_PHASES, word) ∷ []) (one_behind (codes "phases") line)

abbrev pub scale_form : Line → Option (List Sorted)
scale_form line = option_map (λ w. (number MAX_UNITS, w.0) ∷ (number MAX_LENGTH, w.1) ∷ []) (two_behind (codes "scale") line)

-- a numerator and a denominator, with a stroke between them, and a decimal
abbrev pub value_words : ℕ → List ℕ × List ℕ → Option (List Sorted)
value_words most w = option_map (λ part. (number most, part.0) ∷ (number most, part.1) ∷ (decimal (MAX_PART * 1000000 + 999999), w.1) ∷ []) (stroke_parts w.0)

abbrev pub value_form : List ℕ → ℕ → Line → Option (List Sorted)
value_form key most line = option_and_then (value_words most) (two_behind key line)

-- the words of cells: none may stand behind the greatest number of cells
abbrev pub cell_words : Sheet → Line → List Sorted
cell_words sheet words =
    map (λ word. (name sheet.cells, word)) (take MAX_PATH_CELLS words) ++ map (λ word. (nothing, word)) (drop MAX_PATH_CELLS words)

abbrev pub path_form : Sheet → Line → Option (List Sorted)
path_form sheet line =
    option_map (λ w. (name sheet.commodities, w.0) ∷ (number MAX_LENGTH, w.1) ∷ cell_words sheet w.2) (row_behind (codes "path") line)

abbrev pub length_form : Sheet → Line → Option (List Sorted)
length_form sheet line = option_map (λ w. (name sheet.cells, w.0) ∷ (number MAX_LENGTH, w.1) ∷ []) (two_behind (codes "length") line)

abbrev pub potential_form : Sheet → Line → Option (List Sorted)
potential_form sheet line =
    option_map (λ w. (name sheet.nodes, w.0) ∷ map (λ word. (number MAX_LENGTH, word)) w.1)
    (of_that_many (length sheet.nodes) (list_behind (codes "potential") line))

abbrev pub layer_form : Sheet → Line → Option (List Sorted)
layer_form sheet line =
    option_map (λ w. (name sheet.nodes, w.0) ∷ (number MAX_HOPS, w.1) ∷ map (λ word. (number MAX_LENGTH, word)) w.2)
    (with_count (length sheet.nodes) (row_behind (codes "layer") line))

abbrev pub threshold_form : Line → Option (List Sorted)
threshold_form line = option_map (λ word. (number MAX_LENGTH, word) ∷ []) (one_behind (codes "threshold") line)
