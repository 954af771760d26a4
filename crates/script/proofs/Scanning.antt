-- The loop over tokens.
use Rattle.std.proofs.Common.{◌≡◌, ℕ, ◌<◌, ◌≤◌, List, [], ◌∷◌, length, refl, ap, sym, ◌∙◌, arith, Ok, Err, Result, Bool, true, false}
use Rattle.std.specs.Prelude.{nat_lt, if◌then◌else◌}
use Rattle.std.proofs.lemmas.Bool.{ltb-false, ltb-true}
use Rattle.mcf_limits.specs.declared.TheConstants.{MAX_WORD_BYTES}
use Rattle.sndlib_grammar.specs.Tokens.{Lexeme}
use Rattle.script.specs.declared.refusal.ScriptKind.{ScriptKind}
use Rattle.script.specs.declared.refusal.ScriptKind.TheVariants.{Syntax}
use Rattle.script.specs.declared.word.Meaning.{Meaning}
use Rattle.script.specs.Reading.{Terms, Sofar, scan, after, by_kind, go_on, refused}

not_long : (t : Lexeme) → length t.text ≤ MAX_WORD_BYTES → nat_lt MAX_WORD_BYTES (length t.text) ≡ false
not_long t h = elim (nat_lt MAX_WORD_BYTES (length t.text)) as (λ (b : Bool). nat_lt MAX_WORD_BYTES (length t.text) ≡ b → b ≡ false)
    [ true ↦ λ e. (let long = ltb-true MAX_WORD_BYTES (length t.text) e in absurd (omega arith)) | false ↦ λ e. refl ] refl

is_long : (t : Lexeme) → MAX_WORD_BYTES < length t.text → nat_lt MAX_WORD_BYTES (length t.text) ≡ true
is_long t h = elim (nat_lt MAX_WORD_BYTES (length t.text)) as (λ (b : Bool). nat_lt MAX_WORD_BYTES (length t.text) ≡ b → b ≡ true)
    [ true ↦ λ e. refl | false ↦ λ e. (let short = ltb-false MAX_WORD_BYTES (length t.text) e in absurd (omega arith)) ] refl

-- one short token, of which this is the meaning or the refusal
scan_one : (terms : Terms) (end : ℕ) (s : Sofar) (t : Lexeme) (ts : List Lexeme) (m : Result Meaning ScriptKind) → length t.text ≤ MAX_WORD_BYTES → m ≡ by_kind terms s t.text t.kind
    → scan terms end s (t ∷ ts) ≡ go_on t.line (λ x. scan terms end (after s x) ts) m
scan_one terms end s t ts m short e =
    ap (λ (b : Bool). go_on t.line (λ x. scan terms end (after s x) ts) (if b then Err Syntax else by_kind terms s t.text t.kind)) (not_long t short)
    ∙ ap (go_on t.line (λ x. scan terms end (after s x) ts)) (sym e)

-- what is left gives what all of it gives, and the token goes on with this meaning
pub scans_more : (terms : Terms) (end : ℕ) (s start next : Sofar) (t : Lexeme) (rest left all : List Lexeme) (m : Meaning) → scan terms end s rest ≡ scan terms end start all → rest ≡ t ∷ left → length t.text ≤ MAX_WORD_BYTES
    → Ok m ≡ by_kind terms s t.text t.kind → next ≡ after s m → scan terms end next left ≡ scan terms end start all
scans_more terms end s start next t rest left all m same is short e to =
    ap (λ n. scan terms end n left) to ∙ sym (scan_one terms end s t left (Ok m) short e) ∙ ap (scan terms end s) (sym is) ∙ same

-- or it is refused
pub scans_refused : (terms : Terms) (end : ℕ) (s start : Sofar) (t : Lexeme) (rest left all : List Lexeme) (kind : ScriptKind) → scan terms end s rest ≡ scan terms end start all → rest ≡ t ∷ left → length t.text ≤ MAX_WORD_BYTES
    → Err kind ≡ by_kind terms s t.text t.kind → scan terms end start all ≡ refused kind t.line
scans_refused terms end s start t rest left all kind same is short e =
    sym same ∙ ap (scan terms end s) is ∙ scan_one terms end s t left (Err kind) short e

-- or it is a long word
pub scans_long : (terms : Terms) (end : ℕ) (s start : Sofar) (t : Lexeme) (rest left all : List Lexeme) → scan terms end s rest ≡ scan terms end start all → rest ≡ t ∷ left → MAX_WORD_BYTES < length t.text
    → scan terms end start all ≡ refused Syntax t.line
scans_long terms end s start t rest left all same is long =
    sym same ∙ ap (scan terms end s) is ∙ ap (λ (b : Bool). go_on t.line (λ x. scan terms end (after s x) left) (if b then Err Syntax else by_kind terms s t.text t.kind)) (is_long t long)

-- or there is none
pub scans_end : (terms : Terms) (end : ℕ) (s start : Sofar) (rest all : List Lexeme) → scan terms end s rest ≡ scan terms end start all → rest ≡ [] → scan terms end start all ≡ scan terms end s []
scans_end terms end s start rest all same is = sym same ∙ ap (scan terms end s) is
