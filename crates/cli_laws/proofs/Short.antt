-- Lines that were read before a refusal, and what they are the front of.
use Rattle.std.proofs.Common.{◌≡◌, ℕ, ◌+◌, Bool, true, false, cond, List, [], ◌∷◌, ◌++◌, length, Result, Ok, Err, refl, sym, ap, subst, ◌∙◌, append_assoc, length-append, arith}
use Rattle.std.specs.Prelude.{codes, map, ◌&&◌}
use Rattle.std.specs.List.{AllByRecursion}
use Rattle.std.proofs.lemmas.List.Concat.{flat_map-cons}
use Rattle.text_lines.specs.Lines.{Line, spelled, text_of}
use Rattle.cert_lines.specs.declared.refusal.CertKind.{CertKind}
use Rattle.cert_lines.specs.declared.refusal.CertKind.TheVariants.{Syntax}
use Rattle.cert_lines.specs.declared.refusal.CertRefusal.{CertRefusal}
use Rattle.cert_lines.specs.Forms.{◌>>=◌, begins, is_full}
use Rattle.cert_text.specs.Reading.{Place, at_line, has_more, line_from, next_line, rows_from, fixed_line, bytes_of, closing}
use Rattle.cert_writer.specs.Text.{end_line}
use Rattle.cert_text.proofs.Steps.{next_fits}
use Rattle.cert_inverse.proofs.HeadTakes.{joined, fixed_takes}
use Rattle.cert_inverse.proofs.Between.{text_of-both, first_line, next_between}
use Rattle.cli_laws.proofs.Steps.{done, Is, then_is, is_more}

-- these lines stand between two places
pub record Stand (lines : List Line) (from to : Place) : Type 0 where
  pub bytes : bytes_of from.rest ≡ text_of lines ++ bytes_of to.rest
  pub at : to.at ≡ from.at + length lines

-- such lines stand from the place to the line that is refused
pub record Short (Front : List Line → Type 0) (from : Place) (e : CertRefusal) : Type 0 where
  pub front : List Line
  pub is : Front front
  pub rest : List Line
  pub bytes : bytes_of from.rest ≡ text_of front ++ bytes_of rest
  pub line : e.line ≡ from.at + length front

-- lines with which a part of this kind begins
abbrev pub PartOf : {X : Type 0} → (X → List Line) → (X → Type 0) → List Line → Type 0
PartOf {X} L F front = (x : X) × F x × (back : List Line) × (L x ≡ front ++ back)

abbrev pub Read : {X : Type 0} → (X → List Line) → (X → Type 0) → Place → X × Place → Type 0
Read L F p y = Stand (L y.0) p y.1 × F y.0

-- a part was read, or lines with which one begins
abbrev pub Parses : {X : Type 0} → (X → List Line) → (X → Type 0) → Place → Result (X × Place) CertRefusal → Type 0
Parses {X} L F p r = Is (Read {X = X} L F p) (Short (PartOf {X = X} L F) p) r

pub stand_then : (xs ys : List Line) (a b c : Place) → Stand xs a b → Stand ys b c → Stand (xs ++ ys) a c
stand_then xs ys a b c h k = record {
  bytes = h.bytes ∙ ap (λ (l : List ℕ). text_of xs ++ l) k.bytes ∙ sym (append_assoc (text_of xs) (text_of ys) (bytes_of c.rest)) ∙ ap (λ (l : List ℕ). l ++ bytes_of c.rest) (text_of-both xs ys);
  at = omega (arith, h.at, k.at, length-append xs ys);
}

pub short_after : (F G : List Line → Type 0) (ls : List Line) (p q : Place) (e : CertRefusal) → Stand ls p q → ((front : List Line) → F front → G (ls ++ front)) → Short F q e → Short G p e
short_after F G ls p q e h to s = record {
  front = ls ++ s.front;
  is = to s.front s.is;
  rest = s.rest;
  bytes = h.bytes ∙ ap (λ (l : List ℕ). text_of ls ++ l) s.bytes ∙ sym (append_assoc (text_of ls) (text_of s.front) (bytes_of s.rest)) ∙ ap (λ (l : List ℕ). l ++ bytes_of s.rest) (text_of-both ls s.front);
  line = omega (arith, h.at, s.line, length-append ls s.front);
}

pub short_here : (F : List Line → Type 0) (p : Place) (e : CertRefusal) → F [] → e.line ≡ p.at → Short F p e
short_here F p e is line = record { front = []; is = is; rest = p.rest; bytes = refl; line = omega (arith, line) }

-- the lines of a part within a whole
pub within : (lead part rest front back whole : List Line) → whole ≡ lead ++ (part ++ rest) → part ≡ front ++ back → whole ≡ (lead ++ front) ++ (back ++ rest)
within lead part rest front back whole e is =
    e ∙ ap (λ (l : List Line). lead ++ (l ++ rest)) is ∙ ap (λ (l : List Line). lead ++ l) (append_assoc front back rest) ∙ sym (append_assoc lead front (back ++ rest))

-- ---- one line

pub from_cases : {A : Type 0} (P : A → Type 0) (Q : CertRefusal → Type 0) (r : Result A CertRefusal) → ((x : A) → r ≡ Ok x → P x) → ((e : CertRefusal) → r ≡ Err e → Q e) → Is P Q r
from_cases P Q (Ok x) ok err = ok x refl
from_cases P Q (Err e) ok err = err e refl

abbrev StandsNext : {X : Type 0} → ℕ → X × Place → Type 0
StandsNext at y = y.1.at ≡ at + 1

abbrev pub FaultAt : ℕ → CertRefusal → Type 0
FaultAt at e = e.line ≡ at

line_next : {X : Type 0} (read : Line → Result X CertKind) (at : ℕ) (lines : List Line) → Is (StandsNext {X = X} at) (FaultAt at) (line_from read at lines)
line_next read at [] = refl
line_next {X} read at (line ∷ lines) = by (has_more lines) (read line)
  where
    by : (b : Bool) (r : Result X CertKind) → Is (StandsNext {X = X} at) (FaultAt at) (cond b (at_line at r >>= λ x. done (x, record { at = at + 1; rest = lines })) (Err (record { line = at; kind = Syntax })))
    by true (Ok x) = refl
    by true (Err k) = refl
    by false r = refl

next_at : {X : Type 0} (read : Line → Result X CertKind) (p : Place) → Is (StandsNext {X = X} p.at) (FaultAt p.at) (next_line read p)
unfolding next_line
next_at read p = line_next read p.at p.rest

-- a line was read, or it is refused
pub line_part : {X : Type 0} (read : Line → Result X CertKind) (spelling : X → Line) (F : X → Type 0) → ((line : Line) (x : X) → read line ≡ Ok x → joined line ≡ joined (spelling x)) → ((line : Line) (x : X) → read line ≡ Ok x → F x) → (p : Place)
    → Is (Read (λ x. spelling x ∷ []) F p) (FaultAt p.at) (next_line read p)
line_part {X} read spelling F sound fits p =
    from_cases (Read (λ x. spelling x ∷ []) F p) (FaultAt p.at) (next_line read p)
    (λ y e. (record { bytes = (next_between read spelling sound p y e).bytes; at = subst (Is (StandsNext {X = X} p.at) (FaultAt p.at)) e (next_at read p) }, next_fits F read fits p y e))
    (λ d e. subst (Is (StandsNext {X = X} p.at) (FaultAt p.at)) e (next_at read p))

-- ---- rows

cons_bytes : (line spelling : Line) (lines more : List Line) (rest : List ℕ) → has_more lines ≡ true → line ≡ spelling → bytes_of lines ≡ text_of more ++ rest → bytes_of (line ∷ lines) ≡ text_of (spelling ∷ more) ++ rest
cons_bytes line spelling lines more rest m same e =
    first_line line lines m ∙ ap (λ (l : Line). spelled l ++ bytes_of lines) same ∙ ap (λ (l : List ℕ). spelled spelling ++ l) e
    ∙ sym (append_assoc (spelled spelling) (text_of more) rest) ∙ ap (λ (l : List ℕ). l ++ rest) (sym (flat_map-cons spelled spelling more))

module _ {X : Type 0} (key : List ℕ) (row : Line → Result X CertKind) (spelling : X → Line) (F : X → Type 0) (sound : (line : Line) (x : X) → row line ≡ Ok x → line ≡ spelling x) (fits : (line : Line) (x : X) → row line ≡ Ok x → F x) where
  rows_lines : (at : ℕ) (lines : List Line) → Parses (map spelling) (AllByRecursion F) (record { at = at; rest = lines }) (rows_from key row at lines)
  unfolding rows_from
  rows_lines at [] = (record { bytes = refl; at = omega arith }, tt)
  rows_lines at (line ∷ lines) = by (has_more lines) (begins key line) refl (row line) refl (rows_from key row (at + 1) lines) (rows_lines (at + 1) lines)
    where
      here : Place
      here = record { at = at; rest = line ∷ lines }

      next : Place
      next = record { at = at + 1; rest = lines }

      by : (b c : Bool) → has_more lines ≡ b → (r : Result X CertKind) → row line ≡ r → (more : Result (List X × Place) CertRefusal) → Parses (map spelling) (AllByRecursion F) next more
          → Parses (map spelling) (AllByRecursion F) here (cond (b && c) (at_line at r >>= λ x. more >>= λ m. done (x ∷ m.0, m.1)) (done ([], here)))
      by true true m (Ok x) e (Ok z) h = (
        record { bytes = cons_bytes line (spelling x) lines (map spelling z.0) (bytes_of z.1.rest) m (sound line x e) h.0.bytes; at = omega (arith, h.0.at) },
        (fits line x e, h.1),
      )
      by true true m (Ok x) e (Err d) h = record {
        front = spelling x ∷ h.front;
        is = (x ∷ h.is.0, (fits line x e, h.is.1), h.is.2, ap (λ (l : List Line). spelling x ∷ l) h.is.3);
        rest = h.rest;
        bytes = cons_bytes line (spelling x) lines h.front (bytes_of h.rest) m (sound line x e) h.bytes;
        line = omega (arith, h.line);
      }
      by true true m (Err k) e more h = short_here (PartOf (map spelling) (AllByRecursion F)) here (record { line = at; kind = k }) ([], tt, [], refl) refl
      by true false m r e more h = (record { bytes = refl; at = omega arith }, tt)
      by false c m r e more h = (record { bytes = refl; at = omega arith }, tt)

  pub rows_part : (p : Place) → Parses (map spelling) (AllByRecursion F) p (rows_from key row p.at p.rest)
  rows_part p = rows_lines p.at p.rest

-- ---- the end

abbrev pub ends_with : Unit {0} → List Line
ends_with u = end_line ∷ []

abbrev pub Fits : {X : Type 0} → X → Type 0
Fits x = Unit {0}

pub closing_part : (p : Place) → Is (Fits {X = Unit {0}}) (Short (PartOf ends_with (Fits {X = Unit {0}})) p) (closing p)
unfolding closing
closing_part p =
    then_is (Read ends_with (Fits {X = Unit {0}}) p) (FaultAt p.at) (Fits {X = Unit {0}}) (Short (PartOf ends_with (Fits {X = Unit {0}})) p) (next_line (fixed_line (codes "end")) p)
    (λ a. cond (is_full (bytes_of a.1.rest)) (Err (record { line = a.1.at; kind = Syntax })) (done tt))
    (line_part (fixed_line (codes "end")) (λ u. end_line) (Fits {X = Unit {0}}) (λ line u h. fixed_takes (codes "end") line u h) (λ line u h. tt) p)
    (λ e h. short_here (PartOf ends_with (Fits {X = Unit {0}})) p e (tt, tt, end_line ∷ [], refl) h)
    (λ a h. by (is_full (bytes_of a.1.rest)) a.1 h.0)
  where
    by : (b : Bool) (q : Place) → Stand (end_line ∷ []) p q → Is (Fits {X = Unit {0}}) (Short (PartOf ends_with (Fits {X = Unit {0}})) p) (cond b (Err (record { line = q.at; kind = Syntax })) (done tt))
    by true q h = record { front = end_line ∷ []; is = (tt, tt, [], refl); rest = q.rest; bytes = h.bytes; line = h.at }
    by false q h = tt

-- ---- one part after the other

pub stand_none : (p : Place) → Stand [] p p
stand_none p = record { bytes = refl; at = omega arith }

-- a line of which there is always one
pub line_parses : {X : Type 0} (read : Line → Result X CertKind) (spelling : X → Line) (F : X → Type 0) (least : X) → F least → ((line : Line) (x : X) → read line ≡ Ok x → joined line ≡ joined (spelling x)) → ((line : Line) (x : X) → read line ≡ Ok x → F x) → (p : Place)
    → Parses (λ x. spelling x ∷ []) F p (next_line read p)
line_parses {X} read spelling F least fine sound fits p =
    let part : X → List Line = λ x. spelling x ∷ [] in
    is_more (Read part F p) (FaultAt p.at) (Read part F p) (Short (PartOf part F) p) (next_line read p) (line_part read spelling F sound fits p)
    (λ e h. short_here (PartOf part F) p e (least, fine, spelling least ∷ [], refl) h) (λ y h. h)

-- behind lines that were read: a part, and what follows it
pub go_on : {X B : Type 0} (L : X → List Line) (F : X → Type 0) (ok : B → Type 0) (Front : List Line → Type 0) (start p : Place) (lead : List Line) (r : Result (X × Place) CertRefusal) (g : X × Place → Result B CertRefusal) → Stand lead start p → Parses L F p r
    → ((front : List Line) → PartOf L F front → Front (lead ++ front)) → ((x : X) (q : Place) → F x → Stand (lead ++ L x) start q → Is ok (Short Front start) (g (x, q))) → Is ok (Short Front start) (r >>= g)
go_on {X} L F ok Front start p lead r g stand part short next =
    then_is (Read {X = X} L F p) (Short (PartOf {X = X} L F) p) ok (Short Front start) r g part
    (λ e s. short_after (PartOf {X = X} L F) Front lead start p e stand short s)
    (λ y h. next y.0 y.1 h.1 (stand_then lead (L y.0) start p y.1 stand h.0))

abbrev pub FrontOf : List Line → List Line → Type 0
FrontOf whole front = (back : List Line) × (whole ≡ front ++ back)

pub go_place : {B : Type 0} (ls : List Line) (ok : B → Type 0) (Front : List Line → Type 0) (start p : Place) (lead : List Line) (r : Result Place CertRefusal) (g : Place → Result B CertRefusal) → Stand lead start p → Is (Stand ls p) (Short (FrontOf ls) p) r
    → ((front : List Line) → FrontOf ls front → Front (lead ++ front)) → ((q : Place) → Stand (lead ++ ls) start q → Is ok (Short Front start) (g q)) → Is ok (Short Front start) (r >>= g)
go_place ls ok Front start p lead r g stand part short next =
    then_is (Stand ls p) (Short (FrontOf ls) p) ok (Short Front start) r g part
    (λ e s. short_after (FrontOf ls) Front lead start p e stand short s)
    (λ q h. next q (stand_then lead ls start p q stand h))

pub go_last : {B : Type 0} (Front : List Line → Type 0) (start p : Place) (lead : List Line) (value : B) → Stand lead start p
    → ((front : List Line) → FrontOf (end_line ∷ []) front → Front (lead ++ front)) → Is (Fits {X = B}) (Short Front start) (closing p >>= λ last. done value)
go_last {B} Front start p lead value stand short =
    then_is (Fits {X = Unit {0}}) (Short (PartOf ends_with (Fits {X = Unit {0}})) p) (Fits {X = B}) (Short Front start) (closing p) (λ last. done value) (closing_part p)
    (λ e s. short_after (PartOf ends_with (Fits {X = Unit {0}})) Front lead start p e stand (λ front is. short front (is.2, is.3)) s)
    (λ u h. tt)
