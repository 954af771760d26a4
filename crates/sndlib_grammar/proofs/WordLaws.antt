-- The words that spell the entries of a text are words, and slices of its bytes.
use Rattle.std.proofs.Common.{◌≡◌, ℕ, zero, suc, ◌+◌, ◌-◌, ◌<◌, List, [], ◌∷◌, ◌++◌, length, take, drop, min, refl, ap, sym, subst, ◌∙◌, arith, Ok, Bool, true, false, cond}
use Rattle.std.specs.Prelude.{nat_eq, ◌&&◌, ◌==◌, if◌then◌else◌}
use Rattle.std.proofs.lemmas.List.{length-take, take_min}
use Rattle.std.specs.List.{flat_map, starts_with, AllByRecursion, prefix_len, take_while, list_all, after_first, position_or_len}
use Rattle.sndlib_grammar.specs.Tokens.{Lexeme, lexemes, is_blank, is_word_byte, is_in_comment}
use Rattle.sndlib_grammar.specs.declared.token.TokenKind.{TokenKind}
use Rattle.sndlib_grammar.specs.declared.token.TokenKind.TheVariants.{LeftParen, RightParen, Word as WordKind}
use Rattle.sndlib_grammar.specs.declared.refusal.NetKind.TheVariants as netkinds
use Rattle.sndlib_grammar.specs.declared.mode.Part.TheVariants as parts
use Rattle.sndlib_grammar.specs.declared.mode.Mode.TheVariants.{Between}
use Rattle.sndlib_grammar.specs.Grammar.{Symbol, Right, Word, Entries, node, link, demand, skip, section, File, spelled, entries, symbol}
use Rattle.sndlib_grammar.specs.Reading.{scan, at_start, refused}
use Rattle.sndlib_grammar.specs.Refusals.{symbols_of, IsShort, AreEntriesOf, IsReading}
use Rattle.sndlib_grammar.specs.Text.{header, tokens_of, end_of, read_of}
use Rattle.sndlib_grammar.specs.Rows.{IsWord}
use Rattle.sndlib_grammar.specs.Words.{OnSymbol, OnSymbols, OnEntries, AreWordEntries}
use Rattle.sndlib_grammar.specs.Slices.{IsSliceOf}
use Rattle.sndlib_grammar.proofs.Scanned.{scan_reads}

-- ---- slices

-- with a byte in front
further : (b : ℕ) (bs word : List ℕ) → IsSliceOf bs word → IsSliceOf (b ∷ bs) word
further b bs word s =
    let size : suc s.at + length word - suc s.at ≡ s.at + length word - s.at = omega arith in
    record { at = suc s.at; within = omega (arith, s.within); same = ap (λ n. take n (drop s.at bs)) size ∙ s.same }

-- of the bytes behind the first n
behind : (n : ℕ) (bytes word : List ℕ) → IsSliceOf (drop n bytes) word → IsSliceOf bytes word
behind zero bytes word s = s
behind (suc n) [] word s = s
behind (suc n) (b ∷ bs) word s = further b bs word (behind n bs word s)

-- the front of the bytes
front : (n : ℕ) (bytes : List ℕ) → IsSliceOf bytes (take n bytes)
front n bytes =
    let size : 0 + length (take n bytes) - 0 ≡ min n (length bytes) = omega (arith, length-take n bytes) in
    record { at = 0; within = omega (arith, length-take n bytes); same = ap (λ m. take m bytes) size ∙ take_min n bytes }

-- ---- tokens

abbrev IsRun : TokenKind → List ℕ → Type 0
IsRun LeftParen bs = Unit {0}
IsRun RightParen bs = Unit {0}
IsRun WordKind bs = (0 < length bs) × (list_all is_word_byte bs ≡ true)

-- a token of these bytes
record IsToken (bytes : List ℕ) (t : Lexeme) : Type 0 where
  run : IsRun t.kind t.text
  slice : IsSliceOf bytes t.text

tokens_further : (b : ℕ) (bs : List ℕ) (ts : List Lexeme) → AllByRecursion (IsToken bs) ts → AllByRecursion (IsToken (b ∷ bs)) ts
tokens_further b bs [] h = tt
tokens_further b bs (t ∷ ts) h = (record { run = h.0.run; slice = further b bs t.text h.0.slice }, tokens_further b bs ts h.1)

tokens_behind : (n : ℕ) (bytes : List ℕ) (ts : List Lexeme) → AllByRecursion (IsToken (drop n bytes)) ts → AllByRecursion (IsToken bytes) ts
tokens_behind n bytes [] h = tt
tokens_behind n bytes (t ∷ ts) h = (record { run = h.0.run; slice = behind n bytes t.text h.0.slice }, tokens_behind n bytes ts h.1)

front_passes : (p : ℕ → Bool) (bs : List ℕ) → list_all p (take_while p bs) ≡ true
front_passes p [] = refl
front_passes p (b ∷ bs) =
    let go = elim (p b) as (λ (c : Bool). p b ≡ c → list_all p (take (cond c (1 + prefix_len p bs) 0) (b ∷ bs)) ≡ true) [
      | true ↦ λ e. (let n : 1 + prefix_len p bs ≡ suc (prefix_len p bs) = omega arith in
          ap (λ k. list_all p (take k (b ∷ bs))) n ∙ ap (λ c. c && list_all p (take_while p bs)) e ∙ front_passes p bs)
      | false ↦ λ e. refl
    ] in
    go refl

first_byte : (b : ℕ) → (b == 10) ≡ false → is_blank b ≡ false → (b == 35) ≡ false → (b == 40) ≡ false → (b == 41) ≡ false → is_word_byte b ≡ true
first_byte b feed blank comment left right = rw (feed, blank, comment, left, right) refl

parenthesis : (b : ℕ) (bs : List ℕ) → IsSliceOf (b ∷ bs) (b ∷ [])
parenthesis b bs = front 1 (b ∷ bs)

word_token : (b : ℕ) (bs : List ℕ) → is_word_byte b ≡ true → IsRun WordKind (b ∷ take_while is_word_byte bs)
word_token b bs e = (omega arith, ap (λ c. c && list_all is_word_byte (take_while is_word_byte bs)) e ∙ front_passes is_word_byte bs)

word_slice : (b : ℕ) (bs : List ℕ) → IsSliceOf (b ∷ bs) (b ∷ take_while is_word_byte bs)
word_slice b bs = front (suc (prefix_len is_word_byte bs)) (b ∷ bs)

choose : (bytes : List ℕ) (b : Bool) (x y : List Lexeme) → AllByRecursion (IsToken bytes) x → (b ≡ false → AllByRecursion (IsToken bytes) y) → AllByRecursion (IsToken bytes) (if b then x else y)
choose bytes true x y h k = h
choose bytes false x y h k = k refl

tokens_are : (inside : ℕ) (bs : List ℕ) (at line : ℕ) → AllByRecursion (IsToken bs) (lexemes inside bs at line)
tokens_are inside [] at line = tt
tokens_are (suc inside) (b ∷ bs) at line = tokens_further b bs (lexemes inside bs (at + 1) line) (tokens_are inside bs (at + 1) line)
tokens_are zero (b ∷ bs) at line =
    let more : (inside next : ℕ) → AllByRecursion (IsToken (b ∷ bs)) (lexemes inside bs (at + 1) next) = λ inside next. tokens_further b bs (lexemes inside bs (at + 1) next) (tokens_are inside bs (at + 1) next) in
    choose (b ∷ bs) (b == 10) _ _ (more 0 (line + 1)) (λ feed.
    choose (b ∷ bs) (is_blank b) _ _ (more 0 line) (λ blank.
    choose (b ∷ bs) (b == 35) _ _ (more (prefix_len is_in_comment bs) line) (λ comment.
    choose (b ∷ bs) (b == 40) _ _ (record { run = tt; slice = parenthesis b bs }, more 0 line) (λ left.
    choose (b ∷ bs) (b == 41) _ _ (record { run = tt; slice = parenthesis b bs }, more 0 line) (λ right.
    (record { run = word_token b bs (first_byte b feed blank comment left right); slice = word_slice b bs }, more (prefix_len is_word_byte bs) line))))))

-- the tokens of a text are those of its bytes
tokens_of_text : (text : List ℕ) → AllByRecursion (IsToken text) (tokens_of text)
tokens_of_text text =
    let at = position_or_len (λ b. b == 10) text + 1 in
    tokens_behind at text (tokens_of text) (tokens_are 0 (after_first (λ b. b == 10) text) at 2)

-- P holds of the words of these bytes
abbrev OnWordsOf : List ℕ → (List ℕ → Type 0) → Type 0
OnWordsOf bytes P = (w : List ℕ) → IsWord w → IsSliceOf bytes w → P w

on_symbol : (bytes : List ℕ) (P : List ℕ → Type 0) → OnWordsOf bytes P → (k : TokenKind) (t : Lexeme) → t.kind ≡ k → IsRun k t.text → IsSliceOf bytes t.text → IsShort t → OnSymbol P (symbol (record t { kind = k }))
on_symbol bytes P q LeftParen t e run slice short = tt
on_symbol bytes P q RightParen t e run slice short = tt
on_symbol bytes P q WordKind t e run slice short = q t.text (record { some = run.0; short = short; bytes = run.1 }) slice

on_symbols : (bytes : List ℕ) (P : List ℕ → Type 0) → OnWordsOf bytes P → (ts : List Lexeme) → AllByRecursion (IsToken bytes) ts → AllByRecursion IsShort ts → OnSymbols P (symbols_of ts)
on_symbols bytes P q [] h short = tt
on_symbols bytes P q (t ∷ ts) h short = (on_symbol bytes P q t.kind t refl h.0.run h.0.slice short.0, on_symbols bytes P q ts h.1 short.1)

-- ---- entries

split : (P : List ℕ → Type 0) (xs ys : List Symbol) → OnSymbols P (xs ++ ys) → OnSymbols P xs × OnSymbols P ys
split P [] ys h = (tt, h)
split P (x ∷ xs) ys h = let rest = split P xs ys h.1 in ((h.0, rest.0), rest.1)

each : {X : Type 0} (P : List ℕ → Type 0) (f : X → List Symbol) (xs : List X) → OnSymbols P (flat_map f xs) → AllByRecursion (λ x. OnSymbols P (f x)) xs
each P f [] h = tt
each P f (x ∷ xs) h = let parts = split P (f x) (flat_map f xs) h in (parts.0, each P f xs parts.1)

-- the entries in a section, and what follows the section
in_section : (P : List ℕ → Type 0) (name : Word) (inside rest : List Symbol) → OnSymbols P (section name inside ++ rest) → OnSymbols P inside × OnSymbols P rest
in_section P name inside rest h =
    let whole = split P (section name inside) rest h in
    let body = split P inside (Right ∷ []) whole.0.1.1 in
    (body.0, whole.1)

on_file : (P : List ℕ → Type 0) (f : File) → OnSymbols P (spelled f) → OnEntries P (entries f)
on_file P f h =
    let t3 = flat_map skip f.behind in
    let t2 = flat_map skip f.before_demands ++ (section f.demands_name (flat_map demand f.demands) ++ t3) in
    let t1 = flat_map skip f.before_links ++ (section f.links_name (flat_map link f.links) ++ t2) in
    let a = in_section P f.nodes_name (flat_map node f.nodes) t1 (split P (flat_map skip f.before_nodes) (section f.nodes_name (flat_map node f.nodes) ++ t1) h).1 in
    let b = in_section P f.links_name (flat_map link f.links) t2 (split P (flat_map skip f.before_links) (section f.links_name (flat_map link f.links) ++ t2) a.1).1 in
    let c = in_section P f.demands_name (flat_map demand f.demands) t3 (split P (flat_map skip f.before_demands) (section f.demands_name (flat_map demand f.demands) ++ t3) b.1).1 in
    record { nodes = each P node f.nodes a.0; links = each P link f.links b.0; demands = each P demand f.demands c.0 }

on_entries : (bytes : List ℕ) (P : List ℕ → Type 0) → OnWordsOf bytes P → (tokens : List Lexeme) (found : Entries) → AllByRecursion (IsToken bytes) tokens → AreEntriesOf tokens found → OnEntries P found
on_entries bytes P q tokens found are h =
    let net = h.network in
    subst (OnEntries P) (sym net.entries_are) (on_file P net.file (subst (OnSymbols P) net.text (on_symbols bytes P q tokens are h.short)))

-- what holds of each word of a text's bytes holds of those of its entries
on_text : (P : List ℕ → Type 0) (text : List ℕ) → OnWordsOf text P → (found : Entries) → read_of text ≡ Ok found → OnEntries P found
on_text P text q found h =
    let go = elim (starts_with nat_eq text header) as (λ (b : Bool). (if b then scan (end_of text) (Between parts.Nodes) at_start (tokens_of text) else refused netkinds.NoHeader 1) ≡ Ok found → OnEntries P found) [
      | true ↦ λ e. on_entries text P q (tokens_of text) found (tokens_of_text text) (subst (IsReading (tokens_of text) (end_of text)) e (scan_reads (end_of text) (tokens_of text)))
      | false ↦ λ e. absurd cc
    ] in
    go h

-- the words of entries are words
pub text_words : (text : List ℕ) (found : Entries) → read_of text ≡ Ok found → AreWordEntries found
text_words text = on_text IsWord text (λ w is slice. is)

-- and slices of the text's bytes
pub text_slices : (text : List ℕ) (found : Entries) → read_of text ≡ Ok found → OnEntries (IsSliceOf text) found
text_slices text = on_text (IsSliceOf text) text (λ w is slice. slice)
