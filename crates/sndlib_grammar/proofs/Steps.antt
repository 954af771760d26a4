-- A comment and a word, from their first byte to their last.
use Rattle.std.proofs.Common.{◌≡◌, ℕ, zero, suc, ◌+◌, ◌-◌, ◌^◌, ◌<◌, ◌≤◌, true, false, List, [], ◌∷◌, length, take, drop, refl, sym, ap, ◌∙◌, arith, length-drop}
use Rattle.std.specs.Prelude.{◌==◌, slice_index}
use Rattle.std.specs.List.{prefix_len, take_while, slice_range}
use Rattle.std.proofs.lemmas.List.{drop_more, drop-drop}
use Rattle.std.proofs.lemmas.List.Sums.{prefix_len-le-length}
use Rattle.std.proofs.lemmas.List.Folds.{length-prefix_len}
use Rattle.mcf_limits.specs.declared.TheConstants.{MAX_WORD_BYTES}
use Rattle.sndlib_grammar.specs.declared.token.TokenKind.TheVariants.{Word}
use Rattle.sndlib_grammar.specs.Lexing.{IsLong}
use Rattle.sndlib_grammar.specs.Tokens.{lexemes, Lexeme, Unread, is_blank, is_word_byte, is_in_comment, IsStart, IsTokenAt, GoesOn}

lexemes-inside : (n : ℕ) (bs : List ℕ) (at line : ℕ) → lexemes n bs at line ≡ lexemes 0 (drop n bs) (at + n) line
lexemes-inside zero bs at line = let e : at ≡ at + 0 = omega arith in ap (λ k. lexemes 0 bs k line) e
lexemes-inside (suc n) [] at line = refl
lexemes-inside (suc n) (b ∷ bs) at line = let e : at + 1 + n ≡ at + suc n = omega arith in lexemes-inside n bs (at + 1) line ∙ ap (λ k. lexemes 0 (drop n bs) k line) e

-- the bytes of a run that begins behind this place, and what stands behind them
pub behind : (text : List ℕ) (at line n place : ℕ) → place ≡ at + 1 + n → lexemes n (drop (at + 1) text) (at + 1) line ≡ lexemes 0 (drop place text) place line
behind text at line n place e =
    lexemes-inside n (drop (at + 1) text) (at + 1) line
    ∙ ap (λ bs. lexemes 0 bs (at + 1 + n) line) (drop-drop n (at + 1) text) ∙ ap (λ k. lexemes 0 (drop k text) k line) (sym e)

pub at_byte : (text : List ℕ) (at line : ℕ) → at < length text → lexemes 0 (drop at text) at line ≡ lexemes 0 (slice_index text at ∷ drop (at + 1) text) at line
at_byte text at line h = ap (λ bs. lexemes 0 bs at line) (drop_more text at 0 h)

comment_step : (b : ℕ) (bs : List ℕ) (at line : ℕ) → (b == 10) ≡ false → is_blank b ≡ false → (b == 35) ≡ true → lexemes 0 (b ∷ bs) at line ≡ lexemes (prefix_len is_in_comment bs) bs (at + 1) line
comment_step b bs at line e1 e2 e3 = rw (e1, e2, e3) refl

word_step : (b : ℕ) (bs : List ℕ) (at line : ℕ) → (b == 10) ≡ false → is_blank b ≡ false → (b == 35) ≡ false → (b == 40) ≡ false → (b == 41) ≡ false
    → lexemes 0 (b ∷ bs) at line ≡ record { kind = Word; text = b ∷ take_while is_word_byte bs; line = line; at = at } ∷ lexemes (prefix_len is_word_byte bs) bs (at + 1) line
word_step b bs at line e1 e2 e3 e4 e5 = rw (e1, e2, e3, e4, e5) refl

pub skip_comment : (text : List ℕ) (at line place : ℕ) → at < length text → line + length text < 2 ^ 32 + at → (slice_index text at == 10) ≡ false → is_blank (slice_index text at) ≡ false → (slice_index text at == 35) ≡ true
    → place ≡ at + 1 + prefix_len is_in_comment (drop (at + 1) text) → (at < place) × GoesOn text at line place line
skip_comment text at line place h room e1 e2 e3 is =
    let bound : place ≤ length text = omega (arith, prefix_len-le-length is_in_comment (drop (at + 1) text), length-drop (at + 1) text) in (
      omega arith,
      record {
        same = at_byte text at line h ∙ comment_step (slice_index text at) (drop (at + 1) text) at line e1 e2 e3 ∙ behind text at line (prefix_len is_in_comment (drop (at + 1) text)) place is;
        within = bound;
        lines = omega arith;
      },
    )

pub word_at : (text : List ℕ) (at line place : ℕ) → at < length text → IsStart text at → (slice_index text at == 40) ≡ false → (slice_index text at == 41) ≡ false
    → place ≡ at + 1 + prefix_len is_word_byte (drop (at + 1) text) → IsTokenAt text at line (record { kind = Word; text = take (place - at) (drop at text); line = line; at = at }) × (length (take (place - at) (drop at text)) ≡ place - at) × (place ≤ length text)
word_at text at line place h start e4 e5 is =
    let bs = drop (at + 1) text in
    let b = slice_index text at in
    let n = prefix_len is_word_byte bs in
    let bound : place ≤ length text = omega (arith, prefix_len-le-length is_word_byte bs, length-drop (at + 1) text) in
    let size : place - at ≡ suc n = omega arith in
    let cut : take (place - at) (drop at text) ≡ b ∷ take n bs = rw size (ap (take (suc n)) (drop_more text at 0 h)) in
    let len : length (take (place - at) (drop at text)) ≡ place - at = ap length cut ∙ ap suc (length-prefix_len is_word_byte bs) ∙ sym size in
    let word : Lexeme = record { kind = Word; text = take (place - at) (drop at text); line = line; at = at } in
    let ends : at + length (take (place - at) (drop at text)) ≡ place = omega arith in
    let first : lexemes 0 (drop at text) at line ≡ word ∷ lexemes 0 (drop place text) place line =
    at_byte text at line h ∙ word_step b bs at line start.no_feed start.no_blank start.no_comment e4 e5
    ∙ ap (λ (rest : List Lexeme). record { kind = Word; text = b ∷ take n bs; line = line; at = at } ∷ rest) (behind text at line n place is)
    ∙ ap (λ (w : List ℕ). record { kind = Word; text = w; line = line; at = at } ∷ lexemes 0 (drop place text) place line) (sym cut) in (
      record {
        first = rw ends first;
        place = refl;
        some = omega arith;
        within = omega arith;
        slice = ap (λ e. slice_range text at e) ends;
      },
      len,
      bound,
    )

pub long_at : (text : List ℕ) (at line place number found : ℕ) (old : Unread) (t : Lexeme) → record { text = text; tokens = lexemes 0 (drop at text) at line } ≡ old → GoesOn text at line place number → IsTokenAt text place number t → MAX_WORD_BYTES < length t.text → found ≡ t.line
    → IsLong found old (record { text = text; tokens = lexemes 0 (drop place text) place number })
long_at text at line place number found old t was on token long is =
    let same : record { text = text; tokens = lexemes 0 (drop place text) place number } ≡ old = ap (λ (ts : List Lexeme). record { text = text; tokens = ts }) (sym on.same) ∙ was in
    record {
      word = t;
      rest = lexemes 0 (drop (place + length t.text) text) (place + length t.text) number;
      tokens = ap (λ (u : Unread). u.tokens) (sym same) ∙ token.first;
      long = long;
      line = is;
      same = same;
    }
