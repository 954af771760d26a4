-- The loop over tokens.
use Rattle.std.proofs.Common.{◌≡◌, ℕ, ◌≤◌, List, [], ◌∷◌, length, refl, ap, sym, subst, ◌∙◌, arith, Option, Some, Bool, true, false}
use Rattle.std.specs.Prelude.{nat_lt, if◌then◌else◌}
use Rattle.std.specs.Option.{option_map_or}
use Rattle.std.proofs.lemmas.Bool.{ltb-true}
use Rattle.mcf_limits.specs.declared.TheConstants.{MAX_WORD_BYTES}
use Rattle.sndlib_grammar.specs.Tokens.{Lexeme}
use Rattle.matrix_batch.specs.declared.mode.Mode.{Mode}
use Rattle.matrix_batch.specs.declared.mode.Mode.TheVariants.{Between}
use Rattle.matrix_batch.specs.Reading.{Sofar, after, kept, scan, finished, refused, nothing_read}
use Rattle.matrix_batch.specs.Stored.{Stored, put, Fits}
use Rattle.matrix_batch.specs.ReadSteps.{IsKept}
use Rattle.matrix_batch.proofs.Walking.{IsClear, clear_more}
use Rattle.matrix_batch.proofs.Fitting.{fits_kept, fits_list}

-- what is left to read gives what all of it gives, from a state of which this is kept
pub record Scans (end : ℕ) (m : Mode) (k : Stored) (rest all : List Lexeme) : Type 0 where
  pub state : Sofar
  pub same : scan end m state rest ≡ scan end Between nothing_read all
  pub fits : Fits k state
  pub clear : IsClear m state

not_long : (t : Lexeme) → length t.text ≤ MAX_WORD_BYTES → nat_lt MAX_WORD_BYTES (length t.text) ≡ false
not_long t h = elim (nat_lt MAX_WORD_BYTES (length t.text)) as (λ (b : Bool). nat_lt MAX_WORD_BYTES (length t.text) ≡ b → b ≡ false)
    [ true ↦ λ e. (let long = ltb-true MAX_WORD_BYTES (length t.text) e in absurd (omega arith)) | false ↦ λ e. refl ] refl

-- one short token
scan_one : (end : ℕ) (m : Mode) (s : Sofar) (t : Lexeme) (ts : List Lexeme) (o : Option Mode) → length t.text ≤ MAX_WORD_BYTES → after m t.kind ≡ o
    → scan end m s (t ∷ ts) ≡ option_map_or (λ next. scan end next (kept m t s) ts) o (refused t.line)
scan_one end m s t ts o short e =
    ap (λ (b : Bool). if b then refused t.line else option_map_or (λ next. scan end next (kept m t s) ts) (after m t.kind) (refused t.line)) (not_long t short)
    ∙ ap (λ (o : Option Mode). option_map_or (λ next. scan end next (kept m t s) ts) o (refused t.line)) e

pub scans_more : (end : ℕ) (m next : Mode) (old new : Stored) (t : Lexeme) (rest left all : List Lexeme) → Scans end m old rest all → rest ≡ t ∷ left → length t.text ≤ MAX_WORD_BYTES
    → after m t.kind ≡ Some next → new ≡ put m t old → Scans end next new left all
scans_more end m next old new t rest left all s is short e to = record {
  state = kept m t s.state;
  same = sym (ap (scan end m s.state) is ∙ scan_one end m s.state t left (Some next) short e) ∙ s.same;
  fits = subst (λ (k : Stored). Fits k (kept m t s.state)) (sym to) (fits_kept m t old s.state s.fits);
  clear = clear_more m next t s.state s.clear e;
}

-- or there is none
pub scans_end : (end : ℕ) (m : Mode) (k : Stored) (rest all : List Lexeme) (s : Scans end m k rest all) → rest ≡ [] → scan end Between nothing_read all ≡ finished end m s.state.matrices
scans_end end m k rest all s is = sym s.same ∙ ap (scan end m s.state) is

pub whole_list : (end : ℕ) (k : Stored) (rest all : List Lexeme) → Scans end Between k rest all → rest ≡ [] → IsKept (scan end Between nothing_read all) k
whole_list end k rest all s is = record { found = s.state.matrices; reads = scans_end end Between k rest all s is; fits = fits_list k s.state s.fits s.clear }
