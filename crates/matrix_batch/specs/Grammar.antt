-- The grammar of lists: matrices of demands, and how they are spelled.
use Rattle.std.specs.Prelude.{◌≡◌, ℕ, List, [], ◌∷◌, ◌++◌}
use Rattle.std.specs.List.{flat_map}
use Rattle.sndlib_grammar.specs.Tokens.{Lexeme, lexemes}
use Rattle.sndlib_grammar.specs.Grammar.{Word, Symbol, Left, Right, Name, DemandEntry, demand}

-- a name, and demands
pub record MatrixEntry : Type 0 where
  pub name : Word
  pub demands : List DemandEntry

-- the name, and the demands in parentheses
abbrev pub matrix : MatrixEntry → List Symbol
matrix m = Name m.name ∷ Left ∷ flat_map demand m.demands ++ Right ∷ []

-- the matrices, one after the other
abbrev pub spelled : List MatrixEntry → List Symbol
spelled matrices = flat_map matrix matrices

-- the symbols are a list of the grammar, with these matrices
abbrev pub IsList : List Symbol → List MatrixEntry → Type 0
IsList symbols matrices = symbols ≡ spelled matrices

-- some list begins with these symbols
abbrev pub IsBegun : List Symbol → Type 0
IsBegun symbols = (more : List Symbol) × (matrices : List MatrixEntry) × IsList (symbols ++ more) matrices

-- the tokens of a list, which has no first line of its own
abbrev pub tokens_of : List ℕ → List Lexeme
tokens_of text = lexemes 0 text 0 1
