-- Steps that did not fail.
use Rattle.std.proofs.Common.{◌≡◌, ℕ, ◌+◌, ◌<◌, Bool, true, false, cond, ltb, List, [], ◌∷◌, length, Option, Some, None, Result, Ok, Err, refl, ap, subst}
use Rattle.std.specs.Prelude.{◌&&◌}
use Rattle.std.specs.List.{position_or_len, AllByRecursion}
use Rattle.std.specs.Str.{bytes_eq}
use Rattle.std.proofs.lemmas.Bool.{ltb-true}
use Rattle.std.proofs.lemmas.Option.{cond_some}
use Rattle.text_lines.specs.Lines.{Line}
use Rattle.cert_lines.specs.Sheet.{place_of}
use Rattle.cert_lines.specs.declared.refusal.CertKind.{CertKind}
use Rattle.cert_lines.specs.declared.refusal.CertKind.TheVariants.{Syntax}
use Rattle.cert_lines.specs.declared.refusal.CertRefusal.{CertRefusal}
use Rattle.cert_lines.specs.Forms.{◌>>=◌, or_fault, begins}
use Rattle.cert_text.specs.Reading.{Place, at_line, has_more, line_from, next_line, rows_from}

-- the value of a step that did not fail
pub bind_ok : {A B E : Type 0} (r : Result A E) (f : A → Result B E) (y : B) → (r >>= f) ≡ Ok y → (x : A) × (r ≡ Ok x) × (f x ≡ Ok y)
bind_ok (Ok x) f y e = (x, refl, e)
bind_ok (Err d) f y e = absurd cc

abbrev pub done : {A E : Type 0} → A → Result A E
done x = Ok x

pub ok_is : {A E : Type 0} (x y : A) → done {A = A} {E = E} x ≡ done y → x ≡ y
ok_is x y e = cc

pub some_is : {A : Type 0} (kind : CertKind) (o : Option A) (x : A) → or_fault kind o ≡ Ok x → o ≡ Some x
some_is kind None x e = absurd cc
some_is {A} kind (Some y) x e = ap (λ (z : A). Some z) (ok_is {E = CertKind} y x e)

-- a test that was passed
pub passed : {A E : Type 0} (b : Bool) (r : Result A E) (d : E) (y : A) → cond b r (Err d) ≡ Ok y → (b ≡ true) × (r ≡ Ok y)
passed true r d y e = (refl, e)
passed false r d y e = absurd cc

pub at_ok : {X : Type 0} (at : ℕ) (r : Result X CertKind) (x : X) → at_line at r ≡ Ok x → r ≡ Ok x
at_ok {X} at (Ok y) x e = ap (λ (z : X). done z) (ok_is {E = CertRefusal} y x e)
at_ok at (Err k) x e = absurd cc

-- a place that was found is one
pub place_within : (words : List (List ℕ)) (word : List ℕ) (c : ℕ) → place_of words word ≡ Some c → c < length words
place_within words word c e =
    let n = position_or_len (bytes_eq word) words in
    let s = cond_some (ltb n (length words)) n c e in
    subst (λ (k : ℕ). k < length words) s.1 (ltb-true n (length words) s.0)

line_value : {X : Type 0} (P : X → Type 0) (read : Line → Result X CertKind) → ((line : Line) (x : X) → read line ≡ Ok x → P x) → (at : ℕ) (lines : List Line) (y : X × Place) → line_from read at lines ≡ Ok y → P y.0
line_value P read sound at [] y e = absurd cc
line_value {X} P read sound at (line ∷ lines) y e =
    let p = passed (has_more lines) (at_line at (read line) >>= λ x. done (x, record { at = at + 1; rest = lines })) (record { line = at; kind = Syntax }) y e in
    let b = bind_ok (at_line at (read line)) (λ x. done (x, record { at = at + 1; rest = lines })) y p.1 in
    subst (λ (q : X × Place). P q.0) (ok_is {E = CertRefusal} (b.0, record { at = at + 1; rest = lines }) y b.2) (sound line b.0 (at_ok at (read line) b.0 b.1))

-- what holds of what a line's reading gives holds of what was read
pub next_fits : {X : Type 0} (P : X → Type 0) (read : Line → Result X CertKind) → ((line : Line) (x : X) → read line ≡ Ok x → P x) → (place : Place) (y : X × Place) → next_line read place ≡ Ok y → P y.0
unfolding next_line
next_fits P read sound place y e = line_value P read sound place.at place.rest y e

-- what holds of what a row's reading gives holds of all rows that were read
pub rows_fit : {X : Type 0} (P : X → Type 0) (key : List ℕ) (row : Line → Result X CertKind) → ((line : Line) (x : X) → row line ≡ Ok x → P x) → (at : ℕ) (lines : List Line) (y : List X × Place) → rows_from key row at lines ≡ Ok y → AllByRecursion P y.0
unfolding rows_from
rows_fit {X} P key row sound at [] y e = subst (λ (q : List X × Place). AllByRecursion P q.0) (ok_is {E = CertRefusal} ([], record { at = at; rest = [] }) y e) tt
rows_fit {X} P key row sound at (line ∷ lines) y e = by (λ z h. rows_fit P key row sound (at + 1) lines z h) (has_more lines && begins key line) e
  where
    by : ((z : List X × Place) → rows_from key row (at + 1) lines ≡ Ok z → AllByRecursion P z.0) → (b : Bool)
        → cond b (at_line at (row line) >>= λ x. rows_from key row (at + 1) lines >>= λ more. done (x ∷ more.0, more.1)) (done ([], record { at = at; rest = line ∷ lines })) ≡ Ok y → AllByRecursion P y.0
    by more true h =
        let a = bind_ok (at_line at (row line)) (λ x. rows_from key row (at + 1) lines >>= λ others. done (x ∷ others.0, others.1)) y h in
        let b = bind_ok (rows_from key row (at + 1) lines) (λ others. done (a.0 ∷ others.0, others.1)) y a.2 in
        subst (λ (q : List X × Place). AllByRecursion P q.0) (ok_is {E = CertRefusal} (a.0 ∷ b.0.0, b.0.1) y b.2) (sound line a.0 (at_ok at (row line) a.0 a.1), more b.0 b.1)
    by more false h = subst (λ (q : List X × Place). AllByRecursion P q.0) (ok_is {E = CertRefusal} ([], record { at = at; rest = line ∷ lines }) y h) tt
