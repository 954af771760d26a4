-- Where the tokens of a text stop to be a list, and what a list is refused for.
use Rattle.std.specs.Prelude.{◌≡◌, ◌⊎◌, ℕ, List, [], ◌∷◌, ◌++◌}
use Rattle.std.specs.List.{AllByRecursion}
use Rattle.sndlib_grammar.specs.Tokens.{Lexeme}
use Rattle.sndlib_grammar.specs.Refusals.{symbols_of, IsShort}
use Rattle.sndlib_grammar.specs.declared.refusal.NetRefusal.{NetRefusal}
use Rattle.matrix_batch.specs.declared.list_refusal.ListRefusal.{ListRefusal}
use Rattle.matrix_batch.specs.Grammar.{MatrixEntry, IsList, IsBegun}

-- a link of the network is refused, or the list is
pub data BatchRefusal : Type 0 where
  InNet : NetRefusal → BatchRefusal
  InList : ListRefusal → BatchRefusal

-- no word among the tokens is too long, and some list begins with them
pub record AreBegun (tokens : List Lexeme) : Type 0 where
  pub short : AllByRecursion IsShort tokens
  pub begun : IsBegun (symbols_of tokens)

-- no word among the tokens is too long, and they are a list with these matrices
pub record AreMatricesOf (tokens : List Lexeme) (matrices : List MatrixEntry) : Type 0 where
  pub short : AllByRecursion IsShort tokens
  pub list : IsList (symbols_of tokens) matrices

-- the first token with which the tokens so far begin no list, or which is too long a word, stands in this line
pub record IsBadTokenAt (tokens : List Lexeme) (line : ℕ) : Type 0 where
  pub before : List Lexeme
  pub at : Lexeme
  pub after : List Lexeme
  pub parts : tokens ≡ before ++ at ∷ after
  pub begun : AreBegun before
  pub refused : AreBegun (before ++ at ∷ []) → ⊥
  pub line_is : line ≡ at.line

-- some list begins with all the tokens, and they are none; the end is in this line
pub record IsCutShortAt (tokens : List Lexeme) (end line : ℕ) : Type 0 where
  pub begun : AreBegun tokens
  pub none : (matrices : List MatrixEntry) → IsList (symbols_of tokens) matrices → ⊥
  pub line_is : line ≡ end

-- the fault of form stands in this line
abbrev pub IsSyntaxAt : List Lexeme → ℕ → ℕ → Type 0
IsSyntaxAt tokens end line = IsBadTokenAt tokens line ⊎ IsCutShortAt tokens end line
