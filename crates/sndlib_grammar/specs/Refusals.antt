-- Where the tokens of a text stop to be a text of the grammar.
use Rattle.std.specs.Prelude.{◌≡◌, ℕ, ◌<◌, ◌≤◌, List, [], ◌∷◌, ◌++◌, length, map, Result, Ok, Err, ◌⊎◌}
use Rattle.std.specs.List.{AllByRecursion}
use Rattle.mcf_limits.specs.declared.TheConstants.{MAX_WORD_BYTES}
use Rattle.sndlib_grammar.specs.Tokens.{Lexeme}
use Rattle.sndlib_grammar.specs.declared.refusal.NetKind.{NetKind}
use Rattle.sndlib_grammar.specs.declared.refusal.NetKind.TheVariants as netkinds
use Rattle.sndlib_grammar.specs.declared.refusal.NetRefusal.{NetRefusal}
use Rattle.sndlib_grammar.specs.Grammar.{Symbol, Entries, IsNetwork, IsBegun, symbol}

abbrev pub symbols_of : List Lexeme → List Symbol
symbols_of tokens = map symbol tokens

abbrev pub IsShort : Lexeme → Type 0
IsShort t = length t.text ≤ MAX_WORD_BYTES

-- no word among the tokens is too long, and some text of the grammar begins with them
pub record AreBegun (tokens : List Lexeme) : Type 0 where
  pub short : AllByRecursion IsShort tokens
  pub begun : IsBegun (symbols_of tokens)

-- a word of more than `MAX_WORD_BYTES` bytes stands behind tokens with which some text begins
pub record IsLongWordAt (tokens : List Lexeme) (number : ℕ) : Type 0 where
  pub before : List Lexeme
  pub at : Lexeme
  pub after : List Lexeme
  pub parts : tokens ≡ before ++ at ∷ after
  pub begun : AreBegun before
  pub long : MAX_WORD_BYTES < length at.text
  pub line : number ≡ at.line

-- some text begins with the tokens before this one, and none with them and this one
pub record IsSyntaxAt (tokens : List Lexeme) (number : ℕ) : Type 0 where
  pub before : List Lexeme
  pub at : Lexeme
  pub after : List Lexeme
  pub parts : tokens ≡ before ++ at ∷ after
  pub begun : AreBegun before
  pub short : IsShort at
  pub refused : IsBegun (symbols_of (before ++ at ∷ [])) → ⊥
  pub line : number ≡ at.line

-- some text begins with all the tokens, and they are none
pub record IsCutOff (tokens : List Lexeme) (end number : ℕ) : Type 0 where
  pub begun : AreBegun tokens
  pub none : (found : Entries) → IsNetwork (symbols_of tokens) found → ⊥
  pub line : number ≡ end

-- the refusal of this kind stands in this line
abbrev pub StandsAt : List Lexeme → ℕ → NetKind → ℕ → Type 0
StandsAt tokens end netkinds.LongWord line = IsLongWordAt tokens line
StandsAt tokens end netkinds.Syntax line = IsSyntaxAt tokens line ⊎ IsCutOff tokens end line
StandsAt tokens end _ line = ⊥

-- no word is too long, and the tokens are a text of the grammar with these entries
pub record AreEntriesOf (tokens : List Lexeme) (found : Entries) : Type 0 where
  pub short : AllByRecursion IsShort tokens
  pub network : IsNetwork (symbols_of tokens) found

-- what is read of tokens is what the grammar says of them
abbrev pub IsReading : List Lexeme → ℕ → Result Entries NetRefusal → Type 0
IsReading tokens end (Ok found) = AreEntriesOf tokens found
IsReading tokens end (Err r) = StandsAt tokens end r.kind r.line
