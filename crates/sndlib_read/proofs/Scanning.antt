-- The loop over tokens.
use Rattle.std.proofs.Common.{◌≡◌, ℕ, ◌+◌, ◌<◌, ◌≤◌, List, ◌∷◌, length, refl, ap, sym, ◌∙◌, arith, Option, Some, Bool, true, false}
use Rattle.std.specs.Prelude.{nat_lt, if◌then◌else◌}
use Rattle.std.specs.Option.{option_map_or}
use Rattle.std.proofs.lemmas.Bool.{ltb-false, ltb-true}
use Rattle.mcf_limits.specs.declared.TheConstants.{MAX_WORD_BYTES}
use Rattle.sndlib_grammar.specs.Tokens.{Lexeme}
use Rattle.sndlib_grammar.specs.declared.refusal.NetKind.TheVariants as netkinds
use Rattle.sndlib_grammar.specs.declared.mode.Part.TheVariants as parts
use Rattle.sndlib_grammar.specs.declared.mode.Mode.{Mode}
use Rattle.sndlib_grammar.specs.declared.mode.Mode.TheVariants.{Between}
use Rattle.sndlib_grammar.specs.Grammar.{symbol}
use Rattle.sndlib_grammar.specs.Modes.{depth_of}
use Rattle.sndlib_grammar.specs.Reading.{Sofar, scan, at_start, mode_after, kept, refused}
use Rattle.sndlib_read.specs.declared.sofar.Sofar.{Sofar as SofarWords}
use Rattle.sndlib_read.specs.Stored.{partial, put}
use Rattle.sndlib_read.specs.Views.{sofar_view}
use Rattle.sndlib_read.proofs.StoredLaws.{partial-kept}

-- what is left to read gives what all of it gives, from a state of which this is kept
pub record Scans (end : ℕ) (m : Mode) (s : SofarWords) (rest all : List Lexeme) : Type 0 where
  pub state : Sofar
  pub same : scan end m state rest ≡ scan end (Between parts.Nodes) at_start all
  pub view : sofar_view s ≡ partial state
  pub depth : depth_of m + length rest ≤ length all
  pub skipped : s.rows.skipped + length rest ≤ length all

not_long : (t : Lexeme) → length t.text ≤ MAX_WORD_BYTES → nat_lt MAX_WORD_BYTES (length t.text) ≡ false
not_long t h = elim (nat_lt MAX_WORD_BYTES (length t.text)) as (λ (b : Bool). nat_lt MAX_WORD_BYTES (length t.text) ≡ b → b ≡ false)
    [ true ↦ λ e. (let long = ltb-true MAX_WORD_BYTES (length t.text) e in absurd (omega arith)) | false ↦ λ e. refl ] refl

is_long : (t : Lexeme) → MAX_WORD_BYTES < length t.text → nat_lt MAX_WORD_BYTES (length t.text) ≡ true
is_long t h = elim (nat_lt MAX_WORD_BYTES (length t.text)) as (λ (b : Bool). nat_lt MAX_WORD_BYTES (length t.text) ≡ b → b ≡ true)
    [ true ↦ λ e. refl | false ↦ λ e. (let short = ltb-false MAX_WORD_BYTES (length t.text) e in absurd (omega arith)) ] refl

-- one short token
scan_one : (end : ℕ) (m : Mode) (s : Sofar) (t : Lexeme) (ts : List Lexeme) (o : Option Mode) → length t.text ≤ MAX_WORD_BYTES → mode_after m (symbol t) ≡ o
    → scan end m s (t ∷ ts) ≡ option_map_or (λ next. scan end next (kept m (symbol t) s) ts) o (refused netkinds.Syntax t.line)
scan_one end m s t ts o short e =
    ap (λ (b : Bool). if b then refused netkinds.LongWord t.line else option_map_or (λ next. scan end next (kept m (symbol t) s) ts) (mode_after m (symbol t)) (refused netkinds.Syntax t.line)) (not_long t short)
    ∙ ap (λ (o : Option Mode). option_map_or (λ next. scan end next (kept m (symbol t) s) ts) o (refused netkinds.Syntax t.line)) e

pub scans_more : (end : ℕ) (m next : Mode) (old new : SofarWords) (t : Lexeme) (rest left all : List Lexeme) → Scans end m old rest all → rest ≡ t ∷ left → length t.text ≤ MAX_WORD_BYTES
    → mode_after m (symbol t) ≡ Some next → sofar_view new ≡ put m (symbol t) (sofar_view old) → depth_of next ≤ depth_of m + 1 → new.rows.skipped ≤ old.rows.skipped + 1 → Scans end next new left all
scans_more end m next old new t rest left all s is short e view deep skip =
    let size : length rest ≡ length left + 1 = ap length is ∙ omega arith in
    record {
      state = kept m (symbol t) s.state;
      same = sym (ap (scan end m s.state) is ∙ scan_one end m s.state t left (Some next) short e) ∙ s.same;
      view = view ∙ ap (put m (symbol t)) s.view ∙ sym (partial-kept m (symbol t) s.state);
      depth = omega (arith, s.depth);
      skipped = omega (arith, s.skipped);
    }
