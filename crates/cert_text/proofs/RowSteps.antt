-- Rows of one kind, read one after the other.
use Rattle.std.proofs.Common.{◌≡◌, ℕ, ◌+◌, Bool, true, false, cond, List, [], ◌∷◌, ◌++◌, Result, Ok, Err, refl, sym, ap, ◌∙◌, append_assoc}
use Rattle.std.specs.Prelude.{◌&&◌}
use Rattle.std.proofs.lemmas.List.{append-nil}
use Rattle.text_lines.specs.Lines.{Line, lines_of}
use Rattle.cert_lines.specs.declared.refusal.CertKind.{CertKind}
use Rattle.cert_lines.specs.declared.refusal.CertRefusal.{CertRefusal}
use Rattle.cert_lines.specs.Forms.{◌>>=◌, begins}
use Rattle.cert_text.specs.Reading.{Place, rows_from, has_more, at_line}
use Rattle.cert_text.proofs.LineSteps.{has_line}

-- what was read before, and what is still read
abbrev pub with_front : {X : Type 0} → List X → Result (List X × Place) CertRefusal → Result (List X × Place) CertRefusal
with_front front read = read >>= λ more. Ok (front ++ more.0, more.1)

regroup : {X : Type 0} (front : List X) (x : X) (read : Result (List X × Place) CertRefusal)
    → with_front front (read >>= λ more. Ok (x ∷ more.0, more.1)) ≡ with_front (front ++ x ∷ []) read
regroup front x (Ok more) = ap (λ rows. Ok (rows, more.1)) (simp append_assoc)
regroup front x (Err e) = refl

pub goes_on : {X : Type 0} (key : List ℕ) (row : Line → Result X CertKind) (front : List X) (at : ℕ) (lines : List Line) (line : Line) (after : List ℕ) (x : X) (total : Result (List X × Place) CertRefusal)
    → lines ≡ line ∷ lines_of after → begins key line ≡ true → row line ≡ Ok x
    → with_front front (rows_from key row at lines) ≡ total → with_front (front ++ x ∷ []) (rows_from key row (at + 1) (lines_of after)) ≡ total
unfolding rows_from
goes_on key row front at lines line after x total e b r so_far =
    let more = has_line after in
    sym (ap (λ (ls : List Line). with_front front (rows_from key row at ls)) e ∙ rw (more, b, r) (regroup front x (rows_from key row (at + 1) (lines_of after)))) ∙ so_far

pub fails : {X : Type 0} (key : List ℕ) (row : Line → Result X CertKind) (front : List X) (at : ℕ) (lines : List Line) (line : Line) (after : List ℕ) (kind : CertKind) (total : Result (List X × Place) CertRefusal)
    → lines ≡ line ∷ lines_of after → begins key line ≡ true → row line ≡ Err kind
    → with_front front (rows_from key row at lines) ≡ total → total ≡ Err (record { line = at; kind = kind })
unfolding rows_from
fails key row front at lines line after kind total e b r so_far =
    let more = has_line after in
    sym so_far ∙ ap (λ (ls : List Line). with_front front (rows_from key row at ls)) e ∙ rw (more, b, r) refl

pub stops : {X : Type 0} (key : List ℕ) (row : Line → Result X CertKind) (front : List X) (at : ℕ) (lines : List Line) (line : Line) (rest : List Line) (total : Result (List X × Place) CertRefusal)
    → lines ≡ line ∷ rest → begins key line ≡ false
    → with_front front (rows_from key row at lines) ≡ total → total ≡ Ok (front, record { at = at; rest = lines })
unfolding rows_from
stops key row front at lines line rest total e b so_far =
    sym so_far ∙ ap (λ (ls : List Line). with_front front (rows_from key row at ls)) e ∙ halts (has_more rest) ∙ ap (λ (ls : List Line). Ok (front, record { at = at; rest = ls })) (sym e)
  where
    halts : (more : Bool) → with_front front (cond (more && begins key line) (at_line at (row line) >>= λ x. rows_from key row (at + 1) rest >>= λ others. Ok (x ∷ others.0, others.1)) (Ok ([], record { at = at; rest = line ∷ rest }))) ≡ Ok (front, record { at = at; rest = line ∷ rest })
    halts true = rw (b, append-nil) refl
    halts false = rw append-nil refl

pub ends : {X : Type 0} (key : List ℕ) (row : Line → Result X CertKind) (front : List X) (at : ℕ) (lines : List Line) (line : Line) (total : Result (List X × Place) CertRefusal)
    → lines ≡ line ∷ []
    → with_front front (rows_from key row at lines) ≡ total → total ≡ Ok (front, record { at = at; rest = lines })
unfolding rows_from
ends key row front at lines line total e so_far =
    sym so_far ∙ ap (λ (ls : List Line). with_front front (rows_from key row at ls)) e ∙ rw append-nil (ap (λ (ls : List Line). Ok (front, record { at = at; rest = ls })) (sym e))
