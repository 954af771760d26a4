-- The words of a text's matrices are words, and slices of its bytes.
use Rattle.std.proofs.Common.{◌≡◌, ℕ, zero, suc, ◌+◌, ◌-◌, ◌<◌, List, [], ◌∷◌, ◌++◌, length, take, drop, min, refl, ap, subst, ◌∙◌, arith, Bool, true, false, cond}
use Rattle.std.specs.Prelude.{◌&&◌, ◌==◌, if◌then◌else◌}
use Rattle.std.specs.List.{flat_map, AllByRecursion, prefix_len, take_while, list_all}
use Rattle.std.proofs.lemmas.List.{length-take, take_min}
use Rattle.sndlib_grammar.specs.Tokens.{Lexeme, lexemes, is_blank, is_word_byte, is_in_comment}
use Rattle.sndlib_grammar.specs.declared.token.TokenKind.{TokenKind}
use Rattle.sndlib_grammar.specs.declared.token.TokenKind.TheVariants.{LeftParen, RightParen, Word as WordKind}
use Rattle.sndlib_grammar.specs.Grammar.{Symbol, Right, demand, symbol}
use Rattle.sndlib_grammar.specs.Refusals.{symbols_of, IsShort}
use Rattle.sndlib_grammar.specs.Rows.{IsWord}
use Rattle.sndlib_grammar.specs.Slices.{IsSliceOf}
use Rattle.sndlib_grammar.specs.Words.{OnSymbol, OnSymbols}
use Rattle.matrix_batch.specs.Grammar.{MatrixEntry, spelled, tokens_of}
use Rattle.matrix_batch.specs.Refusals.{AreMatricesOf}

-- ---- slices

-- with a byte in front
further : (b : ℕ) (bs word : List ℕ) → IsSliceOf bs word → IsSliceOf (b ∷ bs) word
further b bs word s =
    let size : suc s.at + length word - suc s.at ≡ s.at + length word - s.at = omega arith in
    record { at = suc s.at; within = omega (arith, s.within); same = ap (λ n. take n (drop s.at bs)) size ∙ s.same }

-- the front of the bytes
front : (n : ℕ) (bytes : List ℕ) → IsSliceOf bytes (take n bytes)
front n bytes =
    let size : 0 + length (take n bytes) - 0 ≡ min n (length bytes) = omega (arith, length-take n bytes) in
    record { at = 0; within = omega (arith, length-take n bytes); same = ap (λ m. take m bytes) size ∙ take_min n bytes }

-- ---- tokens

abbrev IsRun : TokenKind → List ℕ → Type 0
IsRun LeftParen bs = Unit {0}
IsRun RightParen bs = Unit {0}
IsRun WordKind bs = (0 < length bs) × (list_all is_word_byte bs ≡ true)

-- a token of these bytes
record IsToken (bytes : List ℕ) (t : Lexeme) : Type 0 where
  run : IsRun t.kind t.text
  slice : IsSliceOf bytes t.text

abbrev AreTokens : List ℕ → List Lexeme → Type 0
AreTokens bytes ts = AllByRecursion (IsToken bytes) ts

tokens_further : (b : ℕ) (bs : List ℕ) (ts : List Lexeme) → AreTokens bs ts → AreTokens (b ∷ bs) ts
tokens_further b bs [] h = tt
tokens_further b bs (t ∷ ts) h = (record { run = h.0.run; slice = further b bs t.text h.0.slice }, tokens_further b bs ts h.1)

front_passes : (p : ℕ → Bool) (bs : List ℕ) → list_all p (take_while p bs) ≡ true
front_passes p [] = refl
front_passes p (b ∷ bs) =
    let go = elim (p b) as (λ (c : Bool). p b ≡ c → list_all p (take (cond c (1 + prefix_len p bs) 0) (b ∷ bs)) ≡ true) [
      | true ↦ λ e. (let n : 1 + prefix_len p bs ≡ suc (prefix_len p bs) = omega arith in
          ap (λ k. list_all p (take k (b ∷ bs))) n ∙ ap (λ c. c && list_all p (take_while p bs)) e ∙ front_passes p bs)
      | false ↦ λ e. refl
    ] in
    go refl

first_byte : (b : ℕ) → (b == 10) ≡ false → is_blank b ≡ false → (b == 35) ≡ false → (b == 40) ≡ false → (b == 41) ≡ false → is_word_byte b ≡ true
first_byte b feed blank comment left right = rw (feed, blank, comment, left, right) refl

word_run : (b : ℕ) (bs : List ℕ) → is_word_byte b ≡ true → IsRun WordKind (b ∷ take_while is_word_byte bs)
word_run b bs e = (omega arith, ap (λ c. c && list_all is_word_byte (take_while is_word_byte bs)) e ∙ front_passes is_word_byte bs)

choose : (bytes : List ℕ) (b : Bool) (x y : List Lexeme) → AreTokens bytes x → (b ≡ false → AreTokens bytes y) → AreTokens bytes (if b then x else y)
choose bytes true x y h k = h
choose bytes false x y h k = k refl

tokens_are : (inside : ℕ) (bs : List ℕ) (at line : ℕ) → AreTokens bs (lexemes inside bs at line)
tokens_are inside [] at line = tt
tokens_are (suc inside) (b ∷ bs) at line = tokens_further b bs (lexemes inside bs (at + 1) line) (tokens_are inside bs (at + 1) line)
tokens_are zero (b ∷ bs) at line =
    let more : (inside next : ℕ) → AreTokens (b ∷ bs) (lexemes inside bs (at + 1) next) = λ inside next. tokens_further b bs (lexemes inside bs (at + 1) next) (tokens_are inside bs (at + 1) next) in
    choose (b ∷ bs) (b == 10) _ _ (more 0 (line + 1)) (λ feed.
    choose (b ∷ bs) (is_blank b) _ _ (more 0 line) (λ blank.
    choose (b ∷ bs) (b == 35) _ _ (more (prefix_len is_in_comment bs) line) (λ comment.
    choose (b ∷ bs) (b == 40) _ _ (record { run = tt; slice = front 1 (b ∷ bs) }, more 0 line) (λ left.
    choose (b ∷ bs) (b == 41) _ _ (record { run = tt; slice = front 1 (b ∷ bs) }, more 0 line) (λ right.
    (record { run = word_run b bs (first_byte b feed blank comment left right); slice = front (suc (prefix_len is_word_byte bs)) (b ∷ bs) }, more (prefix_len is_word_byte bs) line))))))

-- ---- symbols

-- P holds of the words of these bytes
abbrev pub OnWordsOf : List ℕ → (List ℕ → Type 0) → Type 0
OnWordsOf bytes P = (w : List ℕ) → IsWord w → IsSliceOf bytes w → P w

on_symbol : (bytes : List ℕ) (P : List ℕ → Type 0) → OnWordsOf bytes P → (k : TokenKind) (t : Lexeme) → IsRun k t.text → IsSliceOf bytes t.text → IsShort t → OnSymbol P (symbol (record t { kind = k }))
on_symbol bytes P q LeftParen t run slice short = tt
on_symbol bytes P q RightParen t run slice short = tt
on_symbol bytes P q WordKind t run slice short = q t.text (record { some = run.0; short = short; bytes = run.1 }) slice

on_symbols : (bytes : List ℕ) (P : List ℕ → Type 0) → OnWordsOf bytes P → (ts : List Lexeme) → AreTokens bytes ts → AllByRecursion IsShort ts → OnSymbols P (symbols_of ts)
on_symbols bytes P q [] h short = tt
on_symbols bytes P q (t ∷ ts) h short = (on_symbol bytes P q t.kind t h.0.run h.0.slice short.0, on_symbols bytes P q ts h.1 short.1)

split : (P : List ℕ → Type 0) (xs ys : List Symbol) → OnSymbols P (xs ++ ys) → OnSymbols P xs × OnSymbols P ys
split P [] ys h = (tt, h)
split P (x ∷ xs) ys h = let rest = split P xs ys h.1 in ((h.0, rest.0), rest.1)

each : {X : Type 0} (P : List ℕ → Type 0) (f : X → List Symbol) (xs : List X) → OnSymbols P (flat_map f xs) → AllByRecursion (λ x. OnSymbols P (f x)) xs
each P f [] h = tt
each P f (x ∷ xs) h = let parts = split P (f x) (flat_map f xs) h in (parts.0, each P f xs parts.1)

-- the words of the first matrix's demands, and those of the other matrices
pub first_matrix : (P : List ℕ → Type 0) (m : MatrixEntry) (ms : List MatrixEntry) → OnSymbols P (spelled (m ∷ ms)) → AllByRecursion (λ d. OnSymbols P (demand d)) m.demands × OnSymbols P (spelled ms)
first_matrix P m ms h =
    let rest = split P (flat_map demand m.demands ++ Right ∷ []) (spelled ms) h.1.1 in
    let inside = split P (flat_map demand m.demands) (Right ∷ []) rest.0 in
    (each P demand m.demands inside.0, rest.1)

-- what holds of each word of a text's bytes holds of those of its matrices
pub matrices_on : (P : List ℕ → Type 0) (text : List ℕ) → OnWordsOf text P → (ms : List MatrixEntry) → AreMatricesOf (tokens_of text) ms → OnSymbols P (spelled ms)
matrices_on P text q ms h = subst (OnSymbols P) h.list (on_symbols text P q (tokens_of text) (tokens_are 0 text 0 1) h.short)

pub matrices_words : (text : List ℕ) (ms : List MatrixEntry) → AreMatricesOf (tokens_of text) ms → OnSymbols IsWord (spelled ms)
matrices_words text = matrices_on IsWord text (λ w is slice. is)

pub matrices_slices : (text : List ℕ) (ms : List MatrixEntry) → AreMatricesOf (tokens_of text) ms → OnSymbols (IsSliceOf text) (spelled ms)
matrices_slices text = matrices_on (IsSliceOf text) text (λ w is slice. slice)
