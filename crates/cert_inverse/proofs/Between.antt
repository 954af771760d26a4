-- Lines that stand between two places of a text.
use Rattle.std.proofs.Common.{◌≡◌, ℕ, ◌+◌, Bool, true, false, cond, List, [], ◌∷◌, ◌++◌, Result, Ok, Err, refl, sym, ap, subst, ◌∙◌, append_assoc, arith}
use Rattle.std.specs.Prelude.{codes, map, ◌&&◌}
use Rattle.std.proofs.lemmas.Bool.Decides.{nat_tests}
use Rattle.std.proofs.lemmas.List.{append-nil}
use Rattle.std.proofs.lemmas.List.Concat.{flat_map-cons}
use Rattle.text_lines.specs.Lines.{Line, spelled, text_of}
use Rattle.cert_lines.specs.declared.refusal.CertKind.{CertKind}
use Rattle.cert_lines.specs.declared.refusal.CertKind.TheVariants.{Syntax}
use Rattle.cert_lines.specs.declared.refusal.CertRefusal.{CertRefusal}
use Rattle.cert_lines.specs.Forms.{◌>>=◌, begins, is_full}
use Rattle.cert_text.specs.Reading.{Place, at_line, has_more, line_from, next_line, rows_from, fixed_line, bytes_of, closing}
use Rattle.cert_writer.specs.Text.{end_line}
use Rattle.cert_text.proofs.Steps.{bind_ok, done, ok_is, passed, at_ok}
use Rattle.cert_inverse.proofs.HeadTakes.{joined, fixed_takes}

-- the bytes from one place on are those of the lines, and then those from the other place on
pub record Between (lines : List Line) (from to : Place) : Type 0 where
  pub bytes : bytes_of from.rest ≡ text_of lines ++ bytes_of to.rest

pub text_of-both : (xs ys : List Line) → text_of xs ++ text_of ys ≡ text_of (xs ++ ys)
text_of-both [] ys = refl
text_of-both (x ∷ xs) ys =
    ap (λ (l : List ℕ). l ++ text_of ys) (flat_map-cons spelled x xs) ∙ append_assoc (spelled x) (text_of xs) (text_of ys)
    ∙ ap (λ (l : List ℕ). spelled x ++ l) (text_of-both xs ys) ∙ sym (flat_map-cons spelled x (xs ++ ys))

pub between_then : (xs ys : List Line) (a b c : Place) → Between xs a b → Between ys b c → Between (xs ++ ys) a c
between_then xs ys a b c h k = record {
  bytes = h.bytes ∙ ap (λ (l : List ℕ). text_of xs ++ l) k.bytes ∙ sym (append_assoc (text_of xs) (text_of ys) (bytes_of c.rest)) ∙ ap (λ (l : List ℕ). l ++ bytes_of c.rest) (text_of-both xs ys);
}

-- the first line, and the others
pub first_line : (line : Line) (lines : List Line) → has_more lines ≡ true → bytes_of (line ∷ lines) ≡ spelled line ++ bytes_of lines
first_line line [] e = absurd cc
first_line line (next ∷ lines) e = sym (append_assoc (joined line) (10 ∷ []) (bytes_of (next ∷ lines)))

one_line : (line : Line) (rest : List ℕ) → spelled line ++ rest ≡ text_of (line ∷ []) ++ rest
one_line line rest = ap (λ (l : List ℕ). l ++ rest) (sym (flat_map-cons spelled line [] ∙ append-nil (spelled line)))

line_between : {X : Type 0} (read : Line → Result X CertKind) (spelling : X → Line) → ((line : Line) (x : X) → read line ≡ Ok x → joined line ≡ joined (spelling x)) → (at : ℕ) (lines : List Line) (y : X × Place) → line_from read at lines ≡ Ok y
    → bytes_of lines ≡ text_of (spelling y.0 ∷ []) ++ bytes_of y.1.rest
line_between read spelling sound at [] y e = absurd cc
line_between {X} read spelling sound at (line ∷ lines) y e =
    let p = passed (has_more lines) (at_line at (read line) >>= λ x. done (x, record { at = at + 1; rest = lines })) (record { line = at; kind = Syntax }) y e in
    let b = bind_ok (at_line at (read line)) (λ x. done (x, record { at = at + 1; rest = lines })) y p.1 in
    let same = sound line b.0 (at_ok at (read line) b.0 b.1) in
    subst (λ (q : X × Place). bytes_of (line ∷ lines) ≡ text_of (spelling q.0 ∷ []) ++ bytes_of q.1.rest) (ok_is {E = CertRefusal} (b.0, record { at = at + 1; rest = lines }) y b.2)
    (first_line line lines p.0 ∙ ap (λ (l : List ℕ). (l ++ 10 ∷ []) ++ bytes_of lines) same ∙ one_line (spelling b.0) (bytes_of lines))

-- a line that was read stands between where it was read and what follows
pub next_between : {X : Type 0} (read : Line → Result X CertKind) (spelling : X → Line) → ((line : Line) (x : X) → read line ≡ Ok x → joined line ≡ joined (spelling x)) → (place : Place) (y : X × Place) → next_line read place ≡ Ok y → Between (spelling y.0 ∷ []) place y.1
unfolding next_line
next_between read spelling sound place y e = record { bytes = line_between read spelling sound place.at place.rest y e }

-- so do rows that were read
rows_bytes : {X : Type 0} (key : List ℕ) (row : Line → Result X CertKind) (spelling : X → Line) → ((line : Line) (x : X) → row line ≡ Ok x → line ≡ spelling x) → (at : ℕ) (lines : List Line) (y : List X × Place) → rows_from key row at lines ≡ Ok y
    → bytes_of lines ≡ text_of (map spelling y.0) ++ bytes_of y.1.rest
unfolding rows_from
rows_bytes {X} key row spelling sound at [] y e = subst (λ (q : List X × Place). [] ≡ text_of (map spelling q.0) ++ bytes_of q.1.rest) (ok_is {E = CertRefusal} ([], record { at = at; rest = [] }) y e) refl
rows_bytes {X} key row spelling sound at (line ∷ lines) y e = by (λ z h. rows_bytes key row spelling sound (at + 1) lines z h) (has_more lines) (begins key line) refl e
  where
    by : ((z : List X × Place) → rows_from key row (at + 1) lines ≡ Ok z → bytes_of lines ≡ text_of (map spelling z.0) ++ bytes_of z.1.rest) → (b c : Bool) → has_more lines ≡ b
        → cond (b && c) (at_line at (row line) >>= λ x. rows_from key row (at + 1) lines >>= λ more. done (x ∷ more.0, more.1)) (done ([], record { at = at; rest = line ∷ lines })) ≡ Ok y → bytes_of (line ∷ lines) ≡ text_of (map spelling y.0) ++ bytes_of y.1.rest
    by more true true m h =
        let a = bind_ok (at_line at (row line)) (λ x. rows_from key row (at + 1) lines >>= λ others. done (x ∷ others.0, others.1)) y h in
        let b = bind_ok (rows_from key row (at + 1) lines) (λ others. done (a.0 ∷ others.0, others.1)) y a.2 in
        let same = sound line a.0 (at_ok at (row line) a.0 a.1) in
        let rest = bytes_of b.0.1.rest in
        let rows = text_of (map spelling b.0.0) in
        subst (λ (q : List X × Place). bytes_of (line ∷ lines) ≡ text_of (map spelling q.0) ++ bytes_of q.1.rest) (ok_is {E = CertRefusal} (a.0 ∷ b.0.0, b.0.1) y b.2)
        (first_line line lines m ∙ ap (λ (l : Line). spelled l ++ bytes_of lines) same ∙ ap (λ (l : List ℕ). spelled (spelling a.0) ++ l) (more b.0 b.1)
        ∙ sym (append_assoc (spelled (spelling a.0)) rows rest) ∙ ap (λ (l : List ℕ). l ++ rest) (sym (flat_map-cons spelled (spelling a.0) (map spelling b.0.0))))
    by more true false m h = subst (λ (q : List X × Place). bytes_of (line ∷ lines) ≡ text_of (map spelling q.0) ++ bytes_of q.1.rest) (ok_is {E = CertRefusal} ([], record { at = at; rest = line ∷ lines }) y h) refl
    by more false c m h = subst (λ (q : List X × Place). bytes_of (line ∷ lines) ≡ text_of (map spelling q.0) ++ bytes_of q.1.rest) (ok_is {E = CertRefusal} ([], record { at = at; rest = line ∷ lines }) y h) refl

pub rows_between : {X : Type 0} (key : List ℕ) (row : Line → Result X CertKind) (spelling : X → Line) → ((line : Line) (x : X) → row line ≡ Ok x → line ≡ spelling x) → (place : Place) (y : List X × Place) → rows_from key row place.at place.rest ≡ Ok y → Between (map spelling y.0) place y.1
rows_between key row spelling sound place y e = record { bytes = rows_bytes key row spelling sound place.at place.rest y e }

-- the end stands at the end
pub closing_takes : (place : Place) (u : Unit {0}) → closing place ≡ Ok u → bytes_of place.rest ≡ text_of (end_line ∷ [])
unfolding closing
closing_takes place u e =
    let a = bind_ok (next_line (fixed_line (codes "end")) place) (λ rest. cond (is_full (bytes_of rest.1.rest)) (Err (record { line = rest.1.at; kind = Syntax })) (done tt)) u e in
    let end = next_between (fixed_line (codes "end")) (λ (v : Unit {0}). end_line) (λ line v h. fixed_takes (codes "end") line v h) place a.0 a.1 in
    end.bytes ∙ ap (λ (l : List ℕ). text_of (end_line ∷ []) ++ l) (nothing (bytes_of a.0.1.rest) (record { line = a.0.1.at; kind = Syntax }) a.2) ∙ append-nil (text_of (end_line ∷ []))
  where
    nothing : (bytes : List ℕ) (fault : CertRefusal) → cond (is_full bytes) (Err fault) (done tt) ≡ Ok u → bytes ≡ []
    nothing [] fault h = refl
    nothing (b ∷ bytes) fault h =
        let some : is_full (b ∷ bytes) ≡ true = grind (arith, nat_tests) in
        absurd cc
