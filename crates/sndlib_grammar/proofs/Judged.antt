-- The answer to a text is what the grammar and the faults of entries say, and nothing else is.
use Rattle.std.proofs.Common.{◌≡◌, ℕ, ◌<◌, List, [], ◌∷◌, ◌++◌, length, refl, ap, sym, subst, ◌∙◌, arith, append-nil, Option, Some, None, Result, Ok, Err, Bool, true, false, inl, inr}
use Rattle.std.specs.Prelude.{nat_eq, nat_lt, MatchBool, if◌then◌else◌, option_and_then}
use Rattle.std.specs.Option.{option_map_or}
use Rattle.std.specs.List.{starts_with, AllByRecursion}
use Rattle.std.proofs.lemmas.List.{map-append}
use Rattle.std.proofs.lemmas.Bool.{ltb-false, ltb-true}
use Rattle.mcf_limits.specs.declared.TheConstants.{MAX_WORD_BYTES}
use Rattle.sndlib_grammar.specs.Tokens.{Lexeme}
use Rattle.sndlib_grammar.specs.declared.refusal.NetKind.{NetKind}
use Rattle.sndlib_grammar.specs.declared.refusal.NetKind.TheVariants.{NoHeader, LongWord, Syntax, TooMany, Duplicate, UnknownNode, BadNumber, TooFine, TooLarge, NoDemand, HopTooFar}
use Rattle.sndlib_grammar.specs.declared.refusal.NetKind.TheVariants as netkinds
use Rattle.sndlib_grammar.specs.declared.refusal.NetRefusal.{NetRefusal}
use Rattle.sndlib_grammar.specs.declared.mode.Part.TheVariants as parts
use Rattle.sndlib_grammar.specs.declared.mode.Mode.{Mode}
use Rattle.sndlib_grammar.specs.declared.mode.Mode.TheVariants.{Between}
use Rattle.sndlib_grammar.specs.Grammar.{Entries, IsBegun, symbol}
use Rattle.sndlib_grammar.specs.Reading.{Sofar, scan, read, walk, at_start, mode_after, kept, finished, refused}
use Rattle.sndlib_grammar.specs.Refusals.{symbols_of, IsShort, IsLongWordAt, IsSyntaxAt, IsCutOff, StandsAt, AreEntriesOf, IsReading}
use Rattle.sndlib_grammar.specs.Faults.{fault_of}
use Rattle.sndlib_grammar.specs.Rows.{NetRows}
use Rattle.sndlib_grammar.specs.Text.{header, tokens_of, end_of}
use Rattle.sndlib_grammar.specs.Net.{unless_fault, judged, rows_of, IsJudged, IsNetOf}
use Rattle.sndlib_grammar.proofs.Walking.{walk-append}
use Rattle.sndlib_grammar.proofs.Whole.{completed, begun, not_begun}
use Rattle.sndlib_grammar.proofs.Scanned.{scan_reads}

-- ---- the answer is one of the grammar

judge_reading : (tokens : List Lexeme) (end : ℕ) (answer : Result Entries NetRefusal) → IsReading tokens end answer → IsJudged tokens end (judged end answer)
judge_reading tokens end (Ok found) h =
    let go = elim (fault_of found) as (λ (o : Option NetRefusal). fault_of found ≡ o → IsJudged tokens end (unless_fault end found o))
    [ None ↦ λ e. record { found = found; entries = h; sound = e; numbered = refl } | Some r ↦ λ e. inr (record { found = found; entries = h; fault = e }) ] in
    go refl
judge_reading tokens end (Err r) h = inl h

pub text_judged : (text : List ℕ) → IsNetOf text (rows_of text)
text_judged text = elim (starts_with nat_eq text header) as (λ (b : Bool). MatchBool b (IsJudged (tokens_of text) (end_of text) (judged (end_of text) (if b then scan (end_of text) (Between parts.Nodes) at_start (tokens_of text) else refused netkinds.NoHeader 1))) (judged (end_of text) (if b then scan (end_of text) (Between parts.Nodes) at_start (tokens_of text) else refused netkinds.NoHeader 1) ≡ Err (record { line = 1; kind = netkinds.NoHeader })))
    [ true ↦ judge_reading (tokens_of text) (end_of text) (scan (end_of text) (Between parts.Nodes) at_start (tokens_of text)) (scan_reads (end_of text) (tokens_of text)) | false ↦ refl ]

-- ---- no other answer is

-- reading goes on behind short tokens over which it walks
record Goes (end : ℕ) (before : List Lexeme) (m next : Mode) (s : Sofar) : Type 0 where
  later : Sofar
  reads : (ts : List Lexeme) → scan end m s (before ++ ts) ≡ scan end next later ts

not_long : (t : Lexeme) → IsShort t → nat_lt MAX_WORD_BYTES (length t.text) ≡ false
not_long t h = elim (nat_lt MAX_WORD_BYTES (length t.text)) as (λ (b : Bool). nat_lt MAX_WORD_BYTES (length t.text) ≡ b → b ≡ false)
    [ true ↦ λ e. (let long = ltb-true MAX_WORD_BYTES (length t.text) e in absurd (omega arith)) | false ↦ λ e. refl ] refl

is_long : (t : Lexeme) → MAX_WORD_BYTES < length t.text → nat_lt MAX_WORD_BYTES (length t.text) ≡ true
is_long t h = elim (nat_lt MAX_WORD_BYTES (length t.text)) as (λ (b : Bool). nat_lt MAX_WORD_BYTES (length t.text) ≡ b → b ≡ true)
    [ true ↦ λ e. refl | false ↦ λ e. (let short = ltb-false MAX_WORD_BYTES (length t.text) e in absurd (omega arith)) ] refl

-- one short token
scan_one : (end : ℕ) (m : Mode) (s : Sofar) (t : Lexeme) (ts : List Lexeme) (o : Option Mode) → IsShort t → mode_after m (symbol t) ≡ o
    → scan end m s (t ∷ ts) ≡ option_map_or (λ next. scan end next (kept m (symbol t) s) ts) o (refused netkinds.Syntax t.line)
scan_one end m s t ts o short e =
    ap (λ (b : Bool). if b then refused netkinds.LongWord t.line else option_map_or (λ next. scan end next (kept m (symbol t) s) ts) (mode_after m (symbol t)) (refused netkinds.Syntax t.line)) (not_long t short)
    ∙ ap (λ (o : Option Mode). option_map_or (λ next. scan end next (kept m (symbol t) s) ts) o (refused netkinds.Syntax t.line)) e

goes : (end : ℕ) (before : List Lexeme) (m next : Mode) (s : Sofar) → AllByRecursion IsShort before → walk m (symbols_of before) ≡ Some next → Goes end before m next s
goes end [] m next s short h = let same : m ≡ next = cc in record { later = s; reads = λ ts. ap (λ (k : Mode). scan end k s ts) same }
goes end (t ∷ before) m next s short h =
    let go = elim (mode_after m (symbol t)) as (λ (o : Option Mode). mode_after m (symbol t) ≡ o → option_and_then (λ k. walk k (symbols_of before)) o ≡ Some next → Goes end (t ∷ before) m next s) [
      | None ↦ λ e w. absurd cc
      | Some k ↦ λ e w. (let on = goes end before k next (kept m (symbol t) s) short.1 w in record { later = on.later; reads = λ ts. scan_one end m s t (before ++ ts) (Some k) short.0 e ∙ on.reads ts })
    ] in
    go refl h

-- tokens with which a text begins lead to a mode
record Leads (before : List Lexeme) : Type 0 where
  mode : Mode
  walks : walk (Between parts.Nodes) (symbols_of before) ≡ Some mode

leads : (before : List Lexeme) → IsBegun (symbols_of before) → Leads before
leads before b =
    let go = elim (walk (Between parts.Nodes) (symbols_of before)) as (λ (o : Option Mode). walk (Between parts.Nodes) (symbols_of before) ≡ o → Leads before)
    [ None ↦ λ e. absurd (not_begun (symbols_of before) e b) | Some m ↦ λ e. record { mode = m; walks = e } ] in
    go refl

long_word : (tokens : List Lexeme) (end line : ℕ) → IsLongWordAt tokens line → scan end (Between parts.Nodes) at_start tokens ≡ refused netkinds.LongWord line
long_word tokens end line h =
    let w = leads h.before h.begun.begun in
    let on = goes end h.before (Between parts.Nodes) w.mode at_start h.begun.short w.walks in
    ap (scan end (Between parts.Nodes) at_start) h.parts ∙ on.reads (h.at ∷ h.after)
    ∙ ap (λ (b : Bool). if b then refused netkinds.LongWord h.at.line else option_map_or (λ next. scan end next (kept w.mode (symbol h.at) on.later) h.after) (mode_after w.mode (symbol h.at)) (refused netkinds.Syntax h.at.line)) (is_long h.at h.long)
    ∙ ap (λ (n : ℕ). refused netkinds.LongWord n) (sym h.line)

symbols-push : (ts : List Lexeme) (t : Lexeme) → symbols_of (ts ++ t ∷ []) ≡ symbols_of ts ++ symbol t ∷ []
symbols-push ts t = map-append symbol ts (t ∷ [])

-- behind a mode that the token leads to, some text begins with it
begun_with : (before : List Lexeme) (t : Lexeme) (m k : Mode) → walk (Between parts.Nodes) (symbols_of before) ≡ Some m → mode_after m (symbol t) ≡ Some k → IsBegun (symbols_of (before ++ t ∷ []))
begun_with before t m k w e =
    begun (symbols_of (before ++ t ∷ [])) k (ap (walk (Between parts.Nodes)) (symbols-push before t) ∙ walk-append (symbols_of before) (symbol t ∷ []) (Between parts.Nodes) ∙ ap (λ (o : Option Mode). option_and_then (λ n. walk n (symbol t ∷ [])) o) w ∙ ap (λ (o : Option Mode). option_and_then (λ n. walk n []) o) e)

syntax : (tokens : List Lexeme) (end line : ℕ) → IsSyntaxAt tokens line → scan end (Between parts.Nodes) at_start tokens ≡ refused netkinds.Syntax line
syntax tokens end line h =
    let w = leads h.before h.begun.begun in
    let on = goes end h.before (Between parts.Nodes) w.mode at_start h.begun.short w.walks in
    let none = elim (mode_after w.mode (symbol h.at)) as (λ (o : Option Mode). mode_after w.mode (symbol h.at) ≡ o → mode_after w.mode (symbol h.at) ≡ None)
    [ None ↦ λ e. e | Some k ↦ λ e. absurd (h.refused (begun_with h.before h.at w.mode k w.walks e)) ] in
    ap (scan end (Between parts.Nodes) at_start) h.parts ∙ on.reads (h.at ∷ h.after) ∙ scan_one end w.mode on.later h.at h.after None h.short (none refl)
    ∙ ap (λ (n : ℕ). refused netkinds.Syntax n) (sym h.line)

cut_off : (tokens : List Lexeme) (end line : ℕ) → IsCutOff tokens end line → scan end (Between parts.Nodes) at_start tokens ≡ refused netkinds.Syntax line
cut_off tokens end line h =
    let w = leads tokens h.begun.begun in
    let on = goes end tokens (Between parts.Nodes) w.mode at_start h.begun.short w.walks in
    let to_end : scan end (Between parts.Nodes) at_start tokens ≡ option_map_or Ok (finished w.mode on.later.entries) (refused netkinds.Syntax end) = ap (scan end (Between parts.Nodes) at_start) (sym (append-nil tokens)) ∙ on.reads [] in
    let go = elim (finished w.mode on.later.entries) as (λ (o : Option Entries). scan end (Between parts.Nodes) at_start tokens ≡ option_map_or Ok o (refused netkinds.Syntax end) → scan end (Between parts.Nodes) at_start tokens ≡ refused netkinds.Syntax line)
    [ Some found ↦ λ e. absurd (h.none found (subst (IsReading tokens end) e (scan_reads end tokens)).network) | None ↦ λ e. e ∙ ap (λ (n : ℕ). refused netkinds.Syntax n) (sym h.line) ] in
    go to_end

-- a refusal that stands is the one that reading comes to
stands : (tokens : List Lexeme) (end : ℕ) (kind : NetKind) (line : ℕ) → StandsAt tokens end kind line → scan end (Between parts.Nodes) at_start tokens ≡ refused kind line
stands tokens end LongWord line h = long_word tokens end line h
stands tokens end Syntax line h = elim h [ inl s ↦ syntax tokens end line s | inr s ↦ cut_off tokens end line s ]
stands tokens end NoHeader line h = absurd h
stands tokens end TooMany line h = absurd h
stands tokens end Duplicate line h = absurd h
stands tokens end UnknownNode line h = absurd h
stands tokens end BadNumber line h = absurd h
stands tokens end TooFine line h = absurd h
stands tokens end TooLarge line h = absurd h
stands tokens end NoDemand line h = absurd h
stands tokens end HopTooFar line h = absurd h

-- entries of the tokens are those that reading comes to
entries_read : (tokens : List Lexeme) (end : ℕ) (found : Entries) → AreEntriesOf tokens found → scan end (Between parts.Nodes) at_start tokens ≡ Ok found
entries_read tokens end found h =
    let whole = completed (symbols_of tokens) found h.network in
    scan_read tokens (Between parts.Nodes) at_start h.short whole
  where
    scan_read : (ts : List Lexeme) (m : Mode) (s : Sofar) → AllByRecursion IsShort ts → read m s (symbols_of ts) ≡ Some found → scan end m s ts ≡ Ok found
    scan_read [] m s short e = ap (λ (o : Option Entries). option_map_or Ok o (refused netkinds.Syntax end)) e
    scan_read (t ∷ ts) m s short e =
        let go = elim (mode_after m (symbol t)) as (λ (o : Option Mode). mode_after m (symbol t) ≡ o → option_and_then (λ k. read k (kept m (symbol t) s) (symbols_of ts)) o ≡ Some found → scan end m s (t ∷ ts) ≡ Ok found) [
          | None ↦ λ a b. absurd cc
          | Some k ↦ λ a b. scan_one end m s t ts (Some k) short.0 a ∙ scan_read ts k (kept m (symbol t) s) short.1 b
        ] in
        go refl e

judged_only : (tokens : List Lexeme) (end : ℕ) (answer : Result NetRows NetRefusal) → IsJudged tokens end answer → answer ≡ judged end (scan end (Between parts.Nodes) at_start tokens)
judged_only tokens end (Ok rows) h =
    ap (λ (r : NetRows). Ok r) h.numbered ∙ sym (ap (judged end) (entries_read tokens end h.found h.entries) ∙ ap (unless_fault end h.found) h.sound)
judged_only tokens end (Err r) h = elim h [
  | inl s ↦ sym (ap (judged end) (stands tokens end r.kind r.line s))
  | inr f ↦ sym (ap (judged end) (entries_read tokens end f.found f.entries) ∙ ap (unless_fault end f.found) f.fault)
]

-- a text has one answer
pub text_only : (text : List ℕ) (answer : Result NetRows NetRefusal) → IsNetOf text answer → answer ≡ rows_of text
text_only text answer h =
    let go = elim (starts_with nat_eq text header) as (λ (b : Bool). MatchBool b (IsJudged (tokens_of text) (end_of text) answer) (answer ≡ Err (record { line = 1; kind = netkinds.NoHeader })) → answer ≡ judged (end_of text) (if b then scan (end_of text) (Between parts.Nodes) at_start (tokens_of text) else refused netkinds.NoHeader 1))
    [ true ↦ λ j. judged_only (tokens_of text) (end_of text) answer j | false ↦ λ e. e ] in
    go h
