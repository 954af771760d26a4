-- Form 1 has no word for bidirected links.
use Rattle.std.proofs.Common.{◌≡◌, ℕ, Bool, true, false, List, [], ◌∷◌, Option, Some, None, Result, Ok, Err, refl}
use Rattle.std.specs.Prelude.{◌&&◌, if◌then◌else◌, codes}
use Rattle.std.specs.Str.{bytes_eq}
use Rattle.text_lines.specs.Lines.{Line}
use Rattle.unit_scale.specs.declared.modes.LinkMode.TheVariants.{Directed, Undirected, Bidirected}
use Rattle.cert_lines.specs.declared.form.Form.TheVariants.{First}
use Rattle.cert_lines.specs.declared.refusal.CertKind.{CertKind}
use Rattle.cert_lines.specs.declared.refusal.CertKind.TheVariants.{Syntax}
use Rattle.cert_lines.specs.Forms.{◌>>=◌, or_fault, one_behind, is_full}
use Rattle.cert_text.specs.Reading.{mode_line}
use Rattle.cert_text.specs.Whole.{link_mode_line}

abbrev is_empty_mode : List ℕ → Result (Unit {0}) CertKind
is_empty_mode word = if bytes_eq word [] then Ok tt else Err Syntax

-- no line says the empty word
pub no_empty_mode : (key : List ℕ) (words : Line) → mode_line key [] words ≡ Err Syntax
unfolding mode_line
no_empty_mode key [] = refl
no_empty_mode key (word ∷ []) = refl
no_empty_mode key (word ∷ [] ∷ []) = none (bytes_eq word key)
  where
    none : (b : Bool) → (or_fault Syntax (if b && false then Some [] else None) >>= is_empty_mode) ≡ Err Syntax
    none true = refl
    none false = refl
no_empty_mode key (word ∷ (c ∷ cs) ∷ []) = none (bytes_eq word key && is_full (c ∷ cs))
  where
    none : (b : Bool) → (or_fault Syntax (if b then Some (c ∷ cs) else None) >>= is_empty_mode) ≡ Err Syntax
    none true = refl
    none false = refl
no_empty_mode key (word ∷ first ∷ next ∷ words) = refl

not_both : (b c : Bool) → or_fault Syntax (if b then Some Directed else (if c then Some Undirected else None)) ≡ Ok Bidirected → ⊥
not_both true c e = absurd cc
not_both false true e = absurd cc
not_both false false e = absurd cc

pub never_bidirected : (words : Line) → link_mode_line First words ≡ Ok Bidirected → ⊥
unfolding link_mode_line
never_bidirected words e = by (one_behind (codes "links") words) e
  where
    by : (o : Option (List ℕ)) → (or_fault Syntax o >>= λ (word : List ℕ). or_fault Syntax (if bytes_eq word (codes "directed") then Some Directed else (if bytes_eq word (codes "undirected") then Some Undirected else None))) ≡ Ok Bidirected → ⊥
    by None e = absurd cc
    by (Some word) e = not_both (bytes_eq word (codes "directed")) (bytes_eq word (codes "undirected")) e
