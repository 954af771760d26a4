-- What is read of tokens is what the grammar says of them.
use Rattle.std.proofs.Common.{◌≡◌, ℕ, List, [], ◌∷◌, ◌++◌, length, refl, ap, sym, subst, ◌∙◌, append_assoc, append-nil, Option, Some, None, Ok, Bool, true, false, inl, inr}
use Rattle.std.specs.Prelude.{option_and_then, nat_lt, if◌then◌else◌}
use Rattle.std.specs.Option.{option_map_or}
use Rattle.std.specs.Prelude.{nat_eq, MatchBool}
use Rattle.std.specs.List.{starts_with}
use Rattle.sndlib_grammar.specs.Text.{header, tokens_of, end_of, read_of, IsReadingOf}
use Rattle.std.specs.List.{AllByRecursion}
use Rattle.std.proofs.lemmas.List.{map-append}
use Rattle.std.proofs.lemmas.Bool.{ltb-false, ltb-true}
use Rattle.mcf_limits.specs.declared.TheConstants.{MAX_WORD_BYTES}
use Rattle.sndlib_grammar.specs.Tokens.{Lexeme}
use Rattle.sndlib_grammar.specs.declared.refusal.NetKind.TheVariants as netkinds
use Rattle.sndlib_grammar.specs.declared.mode.Part.TheVariants as parts
use Rattle.sndlib_grammar.specs.declared.mode.Mode.{Mode}
use Rattle.sndlib_grammar.specs.declared.mode.Mode.TheVariants.{Between}
use Rattle.sndlib_grammar.specs.Grammar.{Symbol, Entries, symbol}
use Rattle.sndlib_grammar.specs.Reading.{Sofar, scan, read, walk, at_start, mode_after, kept, finished, refused}
use Rattle.sndlib_grammar.specs.Refusals.{symbols_of, IsShort, AreBegun, IsSyntaxAt, IsReading}
use Rattle.sndlib_grammar.proofs.Walking.{walk-append}
use Rattle.sndlib_grammar.proofs.Whole.{accepted, completed, begun, not_begun}

-- reading has come to this state behind these tokens
record Upto (before : List Lexeme) (m : Mode) (s : Sofar) : Type 0 where
  short : AllByRecursion IsShort before
  walks : walk (Between parts.Nodes) (symbols_of before) ≡ Some m
  reads : (ts : List Symbol) → read (Between parts.Nodes) at_start (symbols_of before ++ ts) ≡ read m s ts

all_short : (ts : List Lexeme) (t : Lexeme) → AllByRecursion IsShort ts → IsShort t → AllByRecursion IsShort (ts ++ t ∷ [])
all_short [] t h is = (is, tt)
all_short (x ∷ ts) t h is = (h.0, all_short ts t h.1 is)

symbols-push : (ts : List Lexeme) (t : Lexeme) → symbols_of (ts ++ t ∷ []) ≡ symbols_of ts ++ symbol t ∷ []
symbols-push ts t = map-append symbol ts (t ∷ [])

up_begun : (before : List Lexeme) (m : Mode) (s : Sofar) → Upto before m s → AreBegun before
up_begun before m s u = record { short = u.short; begun = begun (symbols_of before) m u.walks }

-- one token more
one_more : (before : List Lexeme) (t : Lexeme) (m next : Mode) (s : Sofar) → Upto before m s → IsShort t → mode_after m (symbol t) ≡ Some next → Upto (before ++ t ∷ []) next (kept m (symbol t) s)
one_more before t m next s u is e =
    let pushed = symbols-push before t in
    record {
      short = all_short before t u.short is;
      walks = ap (walk (Between parts.Nodes)) pushed ∙ walk-append (symbols_of before) (symbol t ∷ []) (Between parts.Nodes) ∙ ap (λ (o : Option Mode). option_and_then (λ k. walk k (symbol t ∷ [])) o) u.walks
          ∙ ap (λ (o : Option Mode). option_and_then (λ k. walk k []) o) e;
      reads = λ ts. ap (λ (x : List Symbol). read (Between parts.Nodes) at_start (x ++ ts)) pushed ∙ ap (read (Between parts.Nodes) at_start) (append_assoc (symbols_of before) (symbol t ∷ []) ts) ∙ u.reads (symbol t ∷ ts)
          ∙ ap (λ (o : Option Mode). option_and_then (λ k. read k (kept m (symbol t) s) ts) o) e;
    }

syntax_at : (before : List Lexeme) (t : Lexeme) (after : List Lexeme) (m : Mode) (s : Sofar) → Upto before m s → IsShort t → mode_after m (symbol t) ≡ None → IsSyntaxAt (before ++ t ∷ after) t.line
syntax_at before t after m s u is e =
    let dead : walk (Between parts.Nodes) (symbols_of (before ++ t ∷ [])) ≡ None =
    ap (walk (Between parts.Nodes)) (symbols-push before t) ∙ walk-append (symbols_of before) (symbol t ∷ []) (Between parts.Nodes) ∙ ap (λ (o : Option Mode). option_and_then (λ k. walk k (symbol t ∷ [])) o) u.walks
    ∙ ap (λ (o : Option Mode). option_and_then (λ k. walk k []) o) e in
    record { before = before; at = t; after = after; parts = refl; begun = up_begun before m s u; short = is; refused = not_begun (symbols_of (before ++ t ∷ [])) dead; line = refl }

at_end : (end : ℕ) (before : List Lexeme) (m : Mode) (s : Sofar) → Upto before m s → IsReading before end (scan end m s [])
at_end end before m s u =
    let reads : read (Between parts.Nodes) at_start (symbols_of before) ≡ finished m s.entries = ap (read (Between parts.Nodes) at_start) (sym (append-nil (symbols_of before))) ∙ u.reads [] in
    let go = elim (finished m s.entries) as (λ (o : Option Entries). finished m s.entries ≡ o → IsReading before end (option_map_or Ok o (refused netkinds.Syntax end))) [
      | Some found ↦ λ e. record { short = u.short; network = accepted (symbols_of before) found (reads ∙ e) }
      | None ↦ λ e. inr (record { begun = up_begun before m s u; none = λ found net. (let whole = completed (symbols_of before) found net in let no_end = reads ∙ e in absurd cc); line = refl })
    ] in
    go refl

scanned : (end : ℕ) (ts before : List Lexeme) (m : Mode) (s : Sofar) → Upto before m s → IsReading (before ++ ts) end (scan end m s ts)
scanned end [] before m s u = subst (λ x. IsReading x end (scan end m s [])) (sym (append-nil before)) (at_end end before m s u)
scanned end (t ∷ ts) before m s u =
    let next = λ (is : IsShort t). elim (mode_after m (symbol t)) as (λ (o : Option Mode). mode_after m (symbol t) ≡ o → IsReading (before ++ t ∷ ts) end (option_map_or (λ k. scan end k (kept m (symbol t) s) ts) o (refused netkinds.Syntax t.line))) [
      | None ↦ λ e. inl (syntax_at before t ts m s u is e)
      | Some k ↦ λ e. subst (λ x. IsReading x end (scan end k (kept m (symbol t) s) ts)) (append_assoc before (t ∷ []) ts) (scanned end ts (before ++ t ∷ []) k (kept m (symbol t) s) (one_more before t m k s u is e))
    ] in
    let go = elim (nat_lt MAX_WORD_BYTES (length t.text)) as (λ (b : Bool). nat_lt MAX_WORD_BYTES (length t.text) ≡ b → IsReading (before ++ t ∷ ts) end (if b then refused netkinds.LongWord t.line else option_map_or (λ k. scan end k (kept m (symbol t) s) ts) (mode_after m (symbol t)) (refused netkinds.Syntax t.line))) [
      | true ↦ λ e. record { before = before; at = t; after = ts; parts = refl; begun = up_begun before m s u; long = ltb-true MAX_WORD_BYTES (length t.text) e; line = refl }
      | false ↦ λ e. next (ltb-false MAX_WORD_BYTES (length t.text) e) refl
    ] in
    go refl

-- what is read of all the tokens
pub scan_reads : (end : ℕ) (tokens : List Lexeme) → IsReading tokens end (scan end (Between parts.Nodes) at_start tokens)
scan_reads end tokens = scanned end tokens [] (Between parts.Nodes) at_start (record { short = tt; walks = refl; reads = λ ts. refl })
