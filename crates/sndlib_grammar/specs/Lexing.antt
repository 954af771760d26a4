-- What a call of `next` gives.
use Rattle.std.specs.Prelude.{◌≡◌, ℕ, ◌<◌, ◌≤◌, List, [], ◌∷◌, length, Option, Some, None, Result, Ok, Err}
use Rattle.mcf_limits.specs.declared.TheConstants.{MAX_WORD_BYTES}
use Rattle.sndlib_grammar.specs.declared.token.Token.{Token}
use Rattle.sndlib_grammar.specs.declared.token.LongWord.{LongWord}
use Rattle.sndlib_grammar.specs.Tokens.{Lexeme, Unread, lexeme}

-- the next token, which is not a word of more than `MAX_WORD_BYTES` bytes
pub record Takes (t : Lexeme) (old new : Unread) : Type 0 where
  pub short : length t.text ≤ MAX_WORD_BYTES
  pub tokens : old.tokens ≡ t ∷ new.tokens
  pub text : new.text ≡ old.text

-- the next token is a word of more than `MAX_WORD_BYTES` bytes, and stays the next
pub record IsLong (number : ℕ) (old new : Unread) : Type 0 where
  pub word : Lexeme
  pub rest : List Lexeme
  pub tokens : old.tokens ≡ word ∷ rest
  pub long : MAX_WORD_BYTES < length word.text
  pub line : number ≡ word.line
  pub same : new ≡ old

abbrev pub TakesNext : Result (Option Token) LongWord → Unread → Unread → Type 0
TakesNext (Ok None) old new = (old.tokens ≡ []) × (new ≡ old)
TakesNext (Ok (Some t)) old new = Takes (lexeme t) old new
TakesNext (Err e) old new = IsLong e.line old new
