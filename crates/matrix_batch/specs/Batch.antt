-- The matrices of a list, or its first refusal; the work that they are; the text that is written of them.
use Rattle.std.specs.Prelude.{◌≡◌, ◌⊎◌, ℕ, ◌*◌, ◌/◌, ◌<◌, List, [], ◌∷◌, ◌++◌, length, map, min, codes, Option, Some, None, Result, Ok, Err}
use Rattle.std.specs.List.{flat_map, sum_by}
use Rattle.mcf_limits.specs.declared.TheConstants.{DEFAULT_PHASES, MAX_WORK}
use Rattle.unit_scale.specs.declared.options.NetOptions.{NetOptions}
use Rattle.text_lines.specs.Lines.{spelled as line_spelled}
use Rattle.sndlib_grammar.specs.Tokens.{Lexeme}
use Rattle.sndlib_grammar.specs.Rows.{NetRows}
use Rattle.sndlib_grammar.specs.Text.{end_of}
use Rattle.matrix_batch.specs.Grammar.{MatrixEntry, tokens_of}
use Rattle.matrix_batch.specs.declared.list_refusal.ListKind.TheVariants.{Syntax}
use Rattle.matrix_batch.specs.Refusals.{BatchRefusal, InList, AreMatricesOf, IsSyntaxAt}
use Rattle.matrix_batch.specs.Matrices.{Matrix, matrix_of}
use Rattle.matrix_batch.specs.Faults.{batch_fault}

-- the matrices of the tokens where nothing is refused; else the fault of form, or the first of the others
abbrev pub IsBatchOf : NetRows → NetOptions → List Lexeme → ℕ → Result (List Matrix) BatchRefusal → Type 0
IsBatchOf rows o tokens end (Ok batch) =
    (entries : List MatrixEntry) × AreMatricesOf tokens entries
    × (batch_fault rows o entries ≡ None) × (batch ≡ map (matrix_of rows o) entries)
IsBatchOf rows o tokens end (Err r) =
    ((line : ℕ) × IsSyntaxAt tokens end line × (r ≡ InList (record { line = line; kind = Syntax })))
    ⊎ ((entries : List MatrixEntry) × AreMatricesOf tokens entries × (batch_fault rows o entries ≡ Some r))

-- what a list's text is on the rows of a network
abbrev pub IsBatch : NetRows → NetOptions → List ℕ → Result (List Matrix) BatchRefusal → Type 0
IsBatch rows o text answer = IsBatchOf rows o (tokens_of text) (end_of text) answer

-- all commodities
abbrev pub batch_commodities : List Matrix → ℕ
batch_commodities batch = sum_by (λ (m : Matrix). length m.net.net.commodities) batch

-- the phase budget for each matrix where none is given
abbrev pub batch_budget : List Matrix → ℕ
batch_budget [] = DEFAULT_PHASES
batch_budget (m ∷ ms) = min DEFAULT_PHASES (MAX_WORK / batch_commodities (m ∷ ms))

-- a budget was given, and all commodities times phases, which is n, is over the most work
abbrev pub IsBatchTooMuch : List Matrix → Option ℕ → ℕ → Type 0
IsBatchTooMuch batch phases n = (p : ℕ) × (phases ≡ Some p) × (n ≡ batch_commodities batch * p) × (MAX_WORK < n)

-- for each matrix the line with its name, and its certificate's text
abbrev pub batch_text : List (List ℕ × List ℕ) → List ℕ
batch_text certificates = flat_map (λ c. line_spelled (codes "matrix" ∷ c.0 ∷ []) ++ c.1) certificates
