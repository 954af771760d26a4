-- The matrices that a text spells over the rows of a network, or its first refusal before anything is scaled.
use Rattle.std.specs.Prelude.{◌≡◌, ◌⊎◌, ℕ, List, [], map, Option, Some, None, Result, Ok, Err}
use Rattle.std.specs.Option.{option_map}
use Rattle.sndlib_grammar.specs.Tokens.{Lexeme}
use Rattle.sndlib_grammar.specs.Grammar.{Word}
use Rattle.sndlib_grammar.specs.Faults.{or_else}
use Rattle.sndlib_grammar.specs.Rows.{NetDemand, NetRows, names_of_nodes, net_demand}
use Rattle.sndlib_grammar.specs.Text.{end_of}
use Rattle.matrix_batch.specs.Grammar.{MatrixEntry, tokens_of}
use Rattle.matrix_batch.specs.declared.list_refusal.ListKind.{ListKind}
use Rattle.matrix_batch.specs.declared.list_refusal.ListKind.TheVariants.{Syntax, TooMany, Duplicate, UnknownNode, BadNumber}
use Rattle.matrix_batch.specs.declared.list_refusal.ListRefusal.{ListRefusal}
use Rattle.matrix_batch.specs.Refusals.{AreMatricesOf, IsSyntaxAt}
use Rattle.matrix_batch.specs.Faults.{too_many, repeated, unknown_node, bad_number}

-- a name with its line, and rows of demands
pub record NamedDemands : Type 0 where
  pub name : Word
  pub demands : List NetDemand

-- the matrix with the numbers of its demands' ends
abbrev pub named_demands : NetRows → MatrixEntry → NamedDemands
named_demands rows m = record { name = m.name; demands = map (net_demand (names_of_nodes rows)) m.demands }

abbrev pub at_line : ListKind → Option ℕ → Option ListRefusal
at_line kind found = option_map (λ line. record { line = line; kind = kind }) found

-- the first fault of matrices that needs no number of decimals, in the order of the kinds
abbrev pub entry_fault : NetRows → List MatrixEntry → Option ListRefusal
entry_fault rows matrices =
    or_else (at_line TooMany (too_many matrices))
    (or_else (at_line Duplicate (repeated [] matrices))
    (or_else (at_line UnknownNode (unknown_node rows matrices))
    (at_line BadNumber (bad_number matrices))))

-- the matrices of the tokens, where nothing is wrong with them; else the fault of form, or the first of the others
abbrev pub IsReadOf : NetRows → List Lexeme → ℕ → Result (List NamedDemands) ListRefusal → Type 0
IsReadOf rows tokens end (Ok read) =
    (entries : List MatrixEntry) × AreMatricesOf tokens entries
    × (entry_fault rows entries ≡ None) × (read ≡ map (named_demands rows) entries)
IsReadOf rows tokens end (Err r) =
    ((line : ℕ) × IsSyntaxAt tokens end line × (r ≡ record { line = line; kind = Syntax }))
    ⊎ ((entries : List MatrixEntry) × AreMatricesOf tokens entries × (entry_fault rows entries ≡ Some r))

-- what the text of a list is over the rows of a network
abbrev pub IsRead : NetRows → List ℕ → Result (List NamedDemands) ListRefusal → Type 0
IsRead rows text answer = IsReadOf rows (tokens_of text) (end_of text) answer
