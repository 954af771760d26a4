-- The tokens of a text: what is left of it without blanks and comments.
use Rattle.std.specs.Prelude.{◌≡◌, ℕ, zero, suc, ◌+◌, ◌<◌, ◌≤◌, ◌^◌, Bool, false, not, ◌||◌, ◌==◌, if◌then◌else◌, List, [], ◌∷◌, length, drop, slice_index, Option, Some, None, Result, Ok, Err}
use Rattle.std.specs.List.{prefix_len, take_while, slice_range}
use Rattle.mcf_limits.specs.declared.TheConstants.{MAX_WORD_BYTES}
use Rattle.sndlib_grammar.specs.declared.token.TokenKind.{TokenKind}
use Rattle.sndlib_grammar.specs.declared.token.TokenKind.TheVariants.{LeftParen, RightParen, Word}
use Rattle.sndlib_grammar.specs.declared.token.Token.{Token}
use Rattle.sndlib_grammar.specs.declared.token.LongWord.{LongWord}

-- a token: its kind, its bytes, and the line and the place of the first
pub record Lexeme : Type 0 where
  pub kind : TokenKind
  pub text : List ℕ
  pub line : ℕ
  pub at : ℕ

-- space, tab and CR; a LF is a blank too, and ends its line
abbrev pub is_blank : ℕ → Bool
is_blank b = b == 32 || b == 9 || b == 13

abbrev pub is_word_byte : ℕ → Bool
is_word_byte b = not (b == 10 || is_blank b || b == 35 || b == 40 || b == 41)

abbrev pub is_in_comment : ℕ → Bool
is_in_comment b = not (b == 10)

-- The tokens of bytes that stand at this place and line, but for the first `inside` bytes, which are of a word or a comment that
-- began before them.
abbrev pub lexemes : ℕ → List ℕ → ℕ → ℕ → List Lexeme
lexemes inside [] at line = []
lexemes (suc inside) (b ∷ bs) at line = lexemes inside bs (at + 1) line
lexemes zero (b ∷ bs) at line =
    if b == 10 then lexemes 0 bs (at + 1) (line + 1)
    else (if is_blank b then lexemes 0 bs (at + 1) line
    else (if b == 35 then lexemes (prefix_len is_in_comment bs) bs (at + 1) line
    else (if b == 40 then record { kind = LeftParen; text = b ∷ []; line = line; at = at } ∷ lexemes 0 bs (at + 1) line
    else (if b == 41 then record { kind = RightParen; text = b ∷ []; line = line; at = at } ∷ lexemes 0 bs (at + 1) line
    else (record { kind = Word; text = b ∷ take_while is_word_byte bs; line = line; at = at } ∷ lexemes (prefix_len is_word_byte bs) bs (at + 1) line)))))

-- a text, and the tokens in it that were not read yet
pub record Unread : Type 0 where
  pub text : List ℕ
  pub tokens : List Lexeme

-- a token, without where it lies in memory
abbrev pub lexeme : Token → Lexeme
lexeme t = record { kind = t.kind; text = t.text.now; line = t.line; at = t.at }

-- ---- steps of reading

-- a token begins at this place
pub record IsStart (text : List ℕ) (at : ℕ) : Type 0 where
  pub no_feed : (slice_index text at == 10) ≡ false
  pub no_blank : is_blank (slice_index text at) ≡ false
  pub no_comment : (slice_index text at == 35) ≡ false

-- reading goes on from the second place as from the first
pub record GoesOn (text : List ℕ) (at line place number : ℕ) : Type 0 where
  pub same : lexemes 0 (drop at text) at line ≡ lexemes 0 (drop place text) place number
  pub within : place ≤ length text
  pub lines : number + length text < 2 ^ 32 + place

abbrev pub Skips : List ℕ → ℕ → ℕ → Option (ℕ × ℕ) → Type 0
Skips text at line None = at < length text → IsStart text at
Skips text at line (Some p) = (at < p.0) × GoesOn text at line p.0 p.1

abbrev pub StartsAt : List ℕ → ℕ → ℕ → ℕ × ℕ → Type 0
StartsAt text at line p = GoesOn text at line p.0 p.1 × (p.0 < length text → IsStart text p.0)

-- the token that begins at a place, and what stands behind it
pub record IsTokenAt (text : List ℕ) (at line : ℕ) (t : Lexeme) : Type 0 where
  pub first : lexemes 0 (drop at text) at line ≡ t ∷ lexemes 0 (drop (at + length t.text) text) (at + length t.text) line
  pub place : t.at ≡ at
  pub some : 0 < length t.text
  pub within : at + length t.text ≤ length text
  pub slice : slice_range text at (at + length t.text) ≡ t.text

abbrev pub TokenAt : List ℕ → ℕ → ℕ → Result Token LongWord → Type 0
TokenAt text at line (Ok t) = IsTokenAt text at line (lexeme t) × (length t.text.now ≤ MAX_WORD_BYTES)
TokenAt text at line (Err e) = (t : Lexeme) × IsTokenAt text at line t × (MAX_WORD_BYTES < length t.text) × (e.line ≡ t.line)
