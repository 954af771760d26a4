-- Steps, whether they failed or not.
use Rattle.std.proofs.Common.{ℕ, ◌+◌, ◌≤◌, Bool, true, false, cond, List, [], ◌∷◌, Result, Ok, Err, arith}
use Rattle.std.specs.Prelude.{◌&&◌}
use Rattle.text_lines.specs.Lines.{Line}
use Rattle.cert_lines.specs.declared.refusal.CertKind.{CertKind}
use Rattle.cert_lines.specs.declared.refusal.CertKind.TheVariants.{Syntax}
use Rattle.cert_lines.specs.declared.refusal.CertRefusal.{CertRefusal}
use Rattle.cert_lines.specs.Forms.{◌>>=◌, begins}
use Rattle.cert_text.specs.Reading.{Place, at_line, has_more, line_from, next_line, rows_from}

-- what was read, without a fault
abbrev pub done : {A E : Type 0} → A → Result A E
done x = Ok x

-- a fault, in place of a value
abbrev pub failed : (A : Type 0) → CertRefusal → Result A CertRefusal
failed A e = Err e

-- the first holds of a value, the second of a fault
abbrev pub Is : {A : Type 0} → (A → Type 0) → (CertRefusal → Type 0) → Result A CertRefusal → Type 0
Is P Q (Ok x) = P x
Is P Q (Err e) = Q e

pub then_is : {A B : Type 0} (P : A → Type 0) (Q : CertRefusal → Type 0) (S : B → Type 0) (U : CertRefusal → Type 0) (r : Result A CertRefusal) (f : A → Result B CertRefusal) → Is P Q r
    → ((e : CertRefusal) → Q e → U e) → ((x : A) → P x → Is S U (f x)) → Is S U (r >>= f)
then_is P Q S U (Ok x) f h err ok = ok x h
then_is P Q S U (Err e) f h err ok = err e h

pub is_more : {A : Type 0} (P : A → Type 0) (Q : CertRefusal → Type 0) (S : A → Type 0) (U : CertRefusal → Type 0) (r : Result A CertRefusal) → Is P Q r
    → ((e : CertRefusal) → Q e → U e) → ((x : A) → P x → S x) → Is S U r
is_more P Q S U (Ok x) h err ok = ok x h
is_more P Q S U (Err e) h err ok = err e h

-- ---- a step goes on behind where it began

abbrev pub IsBehind : {X : Type 0} → ℕ → X × Place → Type 0
IsBehind at y = at ≤ y.1.at

abbrev pub FaultFrom : ℕ → CertRefusal → Type 0
FaultFrom at e = at ≤ e.line

line_behind : {X : Type 0} (read : Line → Result X CertKind) (at : ℕ) (lines : List Line) → Is (IsBehind (at + 1)) (FaultFrom at) (line_from read at lines)
line_behind read at [] = omega arith
line_behind {X} read at (line ∷ lines) = by (has_more lines) (read line)
  where
    by : (b : Bool) (r : Result X CertKind) → Is (IsBehind (at + 1)) (FaultFrom at) (cond b (at_line at r >>= λ x. done (x, record { at = at + 1; rest = lines })) (Err (record { line = at; kind = Syntax })))
    by true (Ok x) = omega arith
    by true (Err k) = omega arith
    by false r = omega arith

pub next_behind : {X : Type 0} (read : Line → Result X CertKind) (place : Place) → Is (IsBehind (place.at + 1)) (FaultFrom place.at) (next_line read place)
unfolding next_line
next_behind read place = line_behind read place.at place.rest

pub rows_behind : {X : Type 0} (key : List ℕ) (row : Line → Result X CertKind) (at : ℕ) (lines : List Line) → Is (IsBehind at) (FaultFrom at) (rows_from key row at lines)
unfolding rows_from
rows_behind key row at [] = omega arith
rows_behind {X} key row at (line ∷ lines) = by (has_more lines && begins key line) (row line) (rows_from key row (at + 1) lines) (rows_behind key row (at + 1) lines)
  where
    by : (b : Bool) (r : Result X CertKind) (more : Result (List X × Place) CertRefusal) → Is (IsBehind (at + 1)) (FaultFrom (at + 1)) more
        → Is (IsBehind at) (FaultFrom at) (cond b (at_line at r >>= λ x. more >>= λ m. done (x ∷ m.0, m.1)) (done ([], record { at = at; rest = line ∷ lines })))
    by true (Ok x) (Ok m) h = omega (arith, h)
    by true (Ok x) (Err e) h = omega (arith, h)
    by true (Err k) more h = omega arith
    by false r more h = omega arith
