-- Each text has an answer.
use Rattle.std.proofs.Common.{◌≡◌, ◌⊎◌, ℕ, List, [], ◌∷◌, ◌++◌, length, map, refl, ap, sym, subst, ◌∙◌, arith, append_assoc, append-nil, Option, Some, None, Result, Ok, Err, Bool, true, false, inl, inr}
use Rattle.std.specs.Prelude.{nat_lt, option_and_then}
use Rattle.std.specs.List.{AllByRecursion}
use Rattle.std.proofs.lemmas.List.{map-append}
use Rattle.std.proofs.lemmas.Bool.{ltb-false, ltb-true}
use Rattle.mcf_limits.specs.declared.TheConstants.{MAX_WORD_BYTES}
use Rattle.sndlib_grammar.specs.Tokens.{Lexeme}
use Rattle.sndlib_grammar.specs.Grammar.{symbol}
use Rattle.sndlib_grammar.specs.Refusals.{symbols_of, IsShort}
use Rattle.sndlib_grammar.specs.Rows.{NetRows}
use Rattle.sndlib_grammar.specs.Text.{end_of}
use Rattle.unit_scale.specs.declared.options.NetOptions.{NetOptions}
use Rattle.matrix_batch.specs.Grammar.{MatrixEntry, tokens_of}
use Rattle.matrix_batch.specs.declared.list_refusal.ListKind.TheVariants.{Syntax}
use Rattle.matrix_batch.specs.Refusals.{BatchRefusal, InList, AreBegun, AreMatricesOf, IsSyntaxAt}
use Rattle.matrix_batch.specs.Matrices.{Matrix, matrix_of}
use Rattle.matrix_batch.specs.Faults.{batch_fault}
use Rattle.matrix_batch.specs.Batch.{IsBatchOf}
use Rattle.matrix_batch.specs.Laws.{BatchExists}
use Rattle.matrix_batch.proofs.Modes.{Mode, Between, Opening, Inside, Ends, Source, Target, EndsClose, Units, Value, Longest, after, walk, walk-append, list_walked, whole, begun, not_begun}

-- the tokens are a list, or are none from a token or from the end on
abbrev IsRead : List Lexeme → ℕ → Type 0
IsRead tokens end = ((ms : List MatrixEntry) × AreMatricesOf tokens ms) ⊎ ((line : ℕ) × IsSyntaxAt tokens end line)

push_short : (ts : List Lexeme) (t : Lexeme) → AllByRecursion IsShort ts → IsShort t → AllByRecursion IsShort (ts ++ t ∷ [])
push_short [] t h s = (s, tt)
push_short (x ∷ xs) t h s = (h.0, push_short xs t h.1 s)

last_short : (ts : List Lexeme) (t : Lexeme) → AllByRecursion IsShort (ts ++ t ∷ []) → IsShort t
last_short [] t h = h.0
last_short (x ∷ xs) t h = last_short xs t h.1

-- one symbol further
one_more : (ts : List Lexeme) (t : Lexeme) (m : Mode) (o : Option Mode) → walk Between (symbols_of ts) ≡ Some m → after m (symbol t) ≡ o → walk Between (symbols_of (ts ++ t ∷ [])) ≡ o
one_more ts t m None h e =
    ap (walk Between) (map-append symbol ts (t ∷ [])) ∙ walk-append (symbols_of ts) (symbol t ∷ []) Between ∙ ap (λ (o : Option Mode). option_and_then (λ k. walk k (symbol t ∷ [])) o) h
    ∙ ap (λ (o : Option Mode). option_and_then (λ k. walk k []) o) e
one_more ts t m (Some k) h e =
    ap (walk Between) (map-append symbol ts (t ∷ [])) ∙ walk-append (symbols_of ts) (symbol t ∷ []) Between ∙ ap (λ (o : Option Mode). option_and_then (λ k. walk k (symbol t ∷ [])) o) h
    ∙ ap (λ (o : Option Mode). option_and_then (λ k. walk k []) o) e

-- at the end: all is read, or a matrix is open
open_end : (tokens : List Lexeme) (end : ℕ) (m : Mode) → AllByRecursion IsShort tokens → walk Between (symbols_of tokens) ≡ Some m → (m ≡ Between → ⊥) → IsRead tokens end
open_end tokens end m short h other =
    inr (
      end,
      inr (record {
        begun = record { short = short; begun = begun (symbols_of tokens) m h };
        none = λ ms is. (let both : Some m ≡ Some Between = sym h ∙ ap (walk Between) is ∙ list_walked ms in other cc);
        line_is = refl;
      }),
    )

at_end : (tokens : List Lexeme) (end : ℕ) (m : Mode) → AllByRecursion IsShort tokens → walk Between (symbols_of tokens) ≡ Some m → IsRead tokens end
at_end tokens end Between short h = let is = whole (symbols_of tokens) h in inl (is.0, record { short = short; list = is.1 })
at_end tokens end Opening short h = open_end tokens end Opening short h (λ e. absurd cc)
at_end tokens end Inside short h = open_end tokens end Inside short h (λ e. absurd cc)
at_end tokens end Ends short h = open_end tokens end Ends short h (λ e. absurd cc)
at_end tokens end Source short h = open_end tokens end Source short h (λ e. absurd cc)
at_end tokens end Target short h = open_end tokens end Target short h (λ e. absurd cc)
at_end tokens end EndsClose short h = open_end tokens end EndsClose short h (λ e. absurd cc)
at_end tokens end Units short h = open_end tokens end Units short h (λ e. absurd cc)
at_end tokens end Value short h = open_end tokens end Value short h (λ e. absurd cc)
at_end tokens end Longest short h = open_end tokens end Longest short h (λ e. absurd cc)

-- a token that is refused
bad_at : (before : List Lexeme) (t : Lexeme) (more : List Lexeme) (end : ℕ) (m : Mode) → AllByRecursion IsShort before → walk Between (symbols_of before) ≡ Some m → (AreBegun (before ++ t ∷ []) → ⊥) → IsRead (before ++ t ∷ more) end
bad_at before t more end m short h refused =
    inr (t.line, inl (record { before = before; at = t; after = more; parts = refl; begun = record { short = short; begun = begun (symbols_of before) m h }; refused = refused; line_is = refl }))

not_long : (t : Lexeme) → nat_lt MAX_WORD_BYTES (length t.text) ≡ false → IsShort t
not_long t e = let short = ltb-false MAX_WORD_BYTES (length t.text) e in omega (arith, short)

is_long : (t : Lexeme) → nat_lt MAX_WORD_BYTES (length t.text) ≡ true → IsShort t → ⊥
is_long t e s = let long = ltb-true MAX_WORD_BYTES (length t.text) e in omega (arith, long, s)

reads : (before rest : List Lexeme) (end : ℕ) (m : Mode) → AllByRecursion IsShort before → walk Between (symbols_of before) ≡ Some m → IsRead (before ++ rest) end
reads before [] end m short h = subst (λ ts. IsRead ts end) (sym (append-nil before)) (at_end before end m short h)
reads before (t ∷ rest) end m short h =
    let short_one = λ (s : IsShort t). elim (after m (symbol t)) as (λ (o : Option Mode). after m (symbol t) ≡ o → IsRead (before ++ t ∷ rest) end) [
      | None ↦ λ e. bad_at before t rest end m short h (λ b. not_begun (symbols_of (before ++ t ∷ [])) (one_more before t m None h e) b.begun)
      | Some k ↦ λ e. subst (λ ts. IsRead ts end) (append_assoc before (t ∷ []) rest) (reads (before ++ t ∷ []) rest end k (push_short before t short s) (one_more before t m (Some k) h e))
    ] in
    let go = elim (nat_lt MAX_WORD_BYTES (length t.text)) as (λ (c : Bool). nat_lt MAX_WORD_BYTES (length t.text) ≡ c → IsRead (before ++ t ∷ rest) end) [
      | true ↦ λ e. bad_at before t rest end m short h (λ b. is_long t e (last_short before t b.short))
      | false ↦ λ e. short_one (not_long t e) refl
    ] in
    go refl

answered : (rows : NetRows) (o : NetOptions) (tokens : List Lexeme) (end : ℕ) → IsRead tokens end → (answer : Result (List Matrix) BatchRefusal) × IsBatchOf rows o tokens end answer
answered rows o tokens end (inr (line, stands)) = (Err (InList (record { line = line; kind = Syntax })), inl (line, stands, refl))
answered rows o tokens end (inl (ms, are)) =
    let go = elim (batch_fault rows o ms) as (λ (f : Option BatchRefusal). batch_fault rows o ms ≡ f → (answer : Result (List Matrix) BatchRefusal) × IsBatchOf rows o tokens end answer) [
      | None ↦ λ e. (Ok (map (matrix_of rows o) ms), (ms, are, e, refl))
      | Some r ↦ λ e. (Err r, inr (ms, are, e))
    ] in
    go refl

pub answers_exist : BatchExists
answers_exist rows o text = answered rows o (tokens_of text) (end_of text) (reads [] (tokens_of text) (end_of text) Between tt refl)
