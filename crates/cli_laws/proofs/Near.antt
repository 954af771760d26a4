-- Texts that are the same up to a line: what is refused at that line or before is refused in both.
use Rattle.std.proofs.Common.{◌≡◌, ◌⊎◌, ℕ, ◌+◌, ◌<◌, Bool, true, false, cond, List, [], ◌∷◌, ◌++◌, length, Result, Ok, Err, refl, sym, ap, subst, inl, inr, arith}
use Rattle.text_lines.specs.Lines.{Line}
use Rattle.cert_lines.specs.declared.refusal.CertKind.{CertKind}
use Rattle.cert_lines.specs.declared.refusal.CertRefusal.{CertRefusal}
use Rattle.cert_lines.specs.Forms.{◌>>=◌, begins}
use Rattle.cert_text.specs.Reading.{Place, at_line, has_more, line_from, next_line, rows_from}
use Rattle.cli_laws.proofs.Steps.{done, Is, then_is, is_more, IsBehind, FaultFrom, next_behind, rows_behind}

-- two texts that are the same up to a line: its number, the line, and what stands behind it in each
pub record Two : Type 0 where
  pub number : ℕ
  pub line : Line
  pub one : List Line
  pub other : List Line
  pub one_more : has_more one ≡ true
  pub other_more : has_more other ≡ true

-- the same place of both, at the line or before it
pub record Near (t : Two) (p q : Place) : Type 0 where
  pub front : List Line
  pub one : p.rest ≡ front ++ t.line ∷ t.one
  pub other : q.rest ≡ front ++ t.line ∷ t.other
  pub at : q.at ≡ p.at
  pub count : p.at + length front ≡ t.number

-- both give values that go together, or the same fault, or the first goes beyond the line
abbrev pub Goes : {A : Type 0} → Two → (A → A → Type 0) → (A → Type 0) → Result A CertRefusal → Result A CertRefusal → Type 0
Goes {A} t ok far (Ok x) r = ((y : A) × (r ≡ Ok y) × ok x y) ⊎ far x
Goes t ok far (Err e) r = (r ≡ Err e) ⊎ (t.number < e.line)

abbrev pub Beyond : Two → CertRefusal → Type 0
Beyond t e = t.number < e.line

goes_far : {A : Type 0} (t : Two) (ok : A → A → Type 0) (far : A → Type 0) (r s : Result A CertRefusal) → Is far (Beyond t) r → Goes t ok far r s
goes_far t ok far (Ok x) s h = inr h
goes_far t ok far (Err e) s h = inr h

pub goes_then : {A B : Type 0} (t : Two) (ok : A → A → Type 0) (far : A → Type 0) (ok' : B → B → Type 0) (far' : B → Type 0) (r s : Result A CertRefusal) (f : A → Result B CertRefusal) → Goes t ok far r s
    → ((x y : A) → ok x y → Goes t ok' far' (f x) (f y)) → ((x : A) → far x → Is far' (Beyond t) (f x)) → Goes t ok' far' (r >>= f) (s >>= f)
goes_then t ok far ok' far' (Ok x) s f (inl (y, e, k)) near beyond = subst (λ q. Goes t ok' far' (f x) (q >>= f)) (sym e) (near x y k)
goes_then t ok far ok' far' (Ok x) s f (inr h) near beyond = goes_far t ok' far' (f x) (s >>= f) (beyond x h)
goes_then t ok far ok' far' (Err e) s f (inl h) near beyond = inl (ap (λ q. q >>= f) h)
goes_then t ok far ok' far' (Err e) s f (inr h) near beyond = inr h

-- the same value, at the same place
abbrev pub Both : {X : Type 0} → Two → X × Place → X × Place → Type 0
Both t x y = (q : Place) × (y ≡ (x.0, q)) × Near t x.1 q

abbrev pub Past : {X : Type 0} → Two → X × Place → Type 0
Past t x = t.number < x.1.at

pub more_front : (front rest : List Line) (line : Line) → has_more (front ++ line ∷ rest) ≡ true
more_front [] rest line = refl
more_front (l ∷ ls) rest line = refl

lines_near : {X : Type 0} (t : Two) (read : Line → Result X CertKind) (at : ℕ) (front : List Line) → at + length front ≡ t.number
    → Goes t (Both {X = X} t) (Past {X = X} t) (line_from read at (front ++ t.line ∷ t.one)) (line_from read at (front ++ t.line ∷ t.other))
lines_near {X = X} t read at [] count = rw (t.one_more, t.other_more) (by (read t.line))
  where
    by : (r : Result X CertKind) → Goes t (Both {X = X} t) (Past {X = X} t) (at_line at r >>= λ x. done (x, record { at = at + 1; rest = t.one })) (at_line at r >>= λ x. done (x, record { at = at + 1; rest = t.other }))
    by (Ok x) = inr (omega arith)
    by (Err k) = inl refl
lines_near {X = X} t read at (l ∷ ls) count = rw (more_front ls t.one t.line, more_front ls t.other t.line) (by (read l))
  where
    to : List Line → Place
    to rest = record { at = at + 1; rest = ls ++ t.line ∷ rest }

    by : (r : Result X CertKind) → Goes t (Both {X = X} t) (Past {X = X} t) (at_line at r >>= λ x. done (x, to t.one)) (at_line at r >>= λ x. done (x, to t.other))
    by (Ok x) = inl ((x, to t.other), refl, (to t.other, refl, record { front = ls; one = refl; other = refl; at = refl; count = omega arith }))
    by (Err k) = inl refl

pub next_near : {X : Type 0} (t : Two) (read : Line → Result X CertKind) (p q : Place) → Near t p q → Goes t (Both {X = X} t) (Past {X = X} t) (next_line read p) (next_line read q)
unfolding next_line
next_near {X} t read p q n =
    let same = lines_near {X = X} t read p.at n.front n.count in
    let left = subst (λ (ls : List Line). Goes t (Both {X = X} t) (Past {X = X} t) (line_from read p.at ls) (line_from read p.at (n.front ++ t.line ∷ t.other))) (sym n.one) same in
    let right = subst (λ (ls : List Line). Goes t (Both {X = X} t) (Past {X = X} t) (line_from read p.at p.rest) (line_from read p.at ls)) (sym n.other) left in
    subst (λ (at : ℕ). Goes t (Both {X = X} t) (Past {X = X} t) (line_from read p.at p.rest) (line_from read at q.rest)) (sym n.at) right

abbrev from_rows : {X : Type 0} → List ℕ → (Line → Result X CertKind) → ℕ → List Line → Result (List X × Place) CertRefusal
from_rows key row at lines = rows_from key row at lines

rows_go : {X : Type 0} (t : Two) (key : List ℕ) (row : Line → Result X CertKind) (at : ℕ) (front : List Line) → at + length front ≡ t.number
    → Goes t (Both {X = List X} t) (Past {X = List X} t) (rows_from key row at (front ++ t.line ∷ t.one)) (rows_from key row at (front ++ t.line ∷ t.other))
unfolding rows_from
rows_go {X = X} t key row at [] count = rw (t.one_more, t.other_more) (by (begins key t.line) (row t.line) (rows_from key row (at + 1) t.one) (rows_from key row (at + 1) t.other) (rows_behind key row (at + 1) t.one))
  where
    here : List Line → Place
    here rest = record { at = at; rest = t.line ∷ rest }

    by : (b : Bool) (r : Result X CertKind) (one other : Result (List X × Place) CertRefusal) → Is (IsBehind (at + 1)) (FaultFrom (at + 1)) one
        → Goes t (Both {X = List X} t) (Past {X = List X} t) (cond b (at_line at r >>= λ x. one >>= λ m. done (x ∷ m.0, m.1)) (done ([], here t.one))) (cond b (at_line at r >>= λ x. other >>= λ m. done (x ∷ m.0, m.1)) (done ([], here t.other)))
    by true (Ok x) (Ok m) other h = inr (omega (arith, h))
    by true (Ok x) (Err e) other h = inr (omega (arith, h))
    by true (Err k) one other h = inl refl
    by false r one other h = inl (([], here t.other), refl, (here t.other, refl, record { front = []; one = refl; other = refl; at = refl; count = count }))
rows_go {X = X} t key row at (l ∷ ls) count = rw (more_front ls t.one t.line, more_front ls t.other t.line) (by (begins key l) (row l) (rows_from key row (at + 1) (ls ++ t.line ∷ t.one)) (rows_from key row (at + 1) (ls ++ t.line ∷ t.other)) (rows_go t key row (at + 1) ls (omega arith)))
  where
    here : List Line → Place
    here rest = record { at = at; rest = l ∷ (ls ++ t.line ∷ rest) }

    by : (b : Bool) (r : Result X CertKind) (one other : Result (List X × Place) CertRefusal) → Goes t (Both {X = List X} t) (Past {X = List X} t) one other
        → Goes t (Both {X = List X} t) (Past {X = List X} t) (cond b (at_line at r >>= λ x. one >>= λ m. done (x ∷ m.0, m.1)) (done ([], here t.one))) (cond b (at_line at r >>= λ x. other >>= λ m. done (x ∷ m.0, m.1)) (done ([], here t.other)))
    by true (Ok x) (Ok m) other (inl (y, e, (q, s, n))) = inl ((x ∷ m.0, q), subst (λ (o : Result (List X × Place) CertRefusal). (o >>= λ z. done {A = List X × Place} {E = CertRefusal} (x ∷ z.0, z.1)) ≡ Ok (x ∷ m.0, q)) (sym (subst (λ z. other ≡ Ok z) s e)) refl, (q, refl, n))
    by true (Ok x) (Ok m) other (inr h) = inr h
    by true (Ok x) (Err e) other (inl h) = inl (ap (λ (o : Result (List X × Place) CertRefusal). o >>= λ z. done {A = List X × Place} {E = CertRefusal} (x ∷ z.0, z.1)) h)
    by true (Ok x) (Err e) other (inr h) = inr h
    by true (Err k) one other h = inl refl
    by false r one other h = inl (([], here t.other), refl, (here t.other, refl, record { front = l ∷ ls; one = refl; other = refl; at = refl; count = count }))

pub rows_near : {X : Type 0} (t : Two) (key : List ℕ) (row : Line → Result X CertKind) (p q : Place) → Near t p q → Goes t (Both {X = List X} t) (Past {X = List X} t) (rows_from key row p.at p.rest) (rows_from key row q.at q.rest)
rows_near {X} t key row p q n =
    let same = rows_go {X = X} t key row p.at n.front n.count in
    let left = subst (λ (ls : List Line). Goes t (Both {X = List X} t) (Past {X = List X} t) (rows_from key row p.at ls) (rows_from key row p.at (n.front ++ t.line ∷ t.other))) (sym n.one) same in
    let right = subst (λ (ls : List Line). Goes t (Both {X = List X} t) (Past {X = List X} t) (rows_from key row p.at p.rest) (rows_from key row p.at ls)) (sym n.other) left in
    subst (λ (at : ℕ). Goes t (Both {X = List X} t) (Past {X = List X} t) (rows_from key row p.at p.rest) (rows_from key row at q.rest)) (sym n.at) right

-- ---- one step after the other

-- a step at two such places goes on so; and beyond the line it stays there
pub record Steps {A : Type 0} (t : Two) (ok : A → A → Type 0) (far : A → Type 0) (f : Place → Result A CertRefusal) : Type 0 where
  pub near : (p q : Place) → Near t p q → Goes t ok far (f p) (f q)
  pub past : (p : Place) → t.number < p.at → Is far (Beyond t) (f p)

abbrev pub IsFar : Two → Place → Type 0
IsFar t p = t.number < p.at

pub next_steps : {X : Type 0} (t : Two) (read : Line → Result X CertKind) → Steps t (Both {X = X} t) (Past {X = X} t) (next_line read)
next_steps {X} t read = record {
  near = next_near t read;
  past = λ p h. is_more (IsBehind {X = X} (p.at + 1)) (FaultFrom p.at) (Past {X = X} t) (Beyond t) (next_line read p) (next_behind read p) (λ e le. omega arith) (λ x le. omega arith);
}

pub rows_steps : {X : Type 0} (t : Two) (key : List ℕ) (row : Line → Result X CertKind) → Steps t (Both {X = List X} t) (Past {X = List X} t) (λ p. rows_from key row p.at p.rest)
rows_steps {X} t key row = record {
  near = rows_near t key row;
  past = λ p h. is_more (IsBehind {X = List X} p.at) (FaultFrom p.at) (Past {X = List X} t) (Beyond t) (rows_from key row p.at p.rest) (rows_behind key row p.at p.rest) (λ e le. omega arith) (λ x le. omega arith);
}

pub steps_then : {X B : Type 0} (t : Two) (ok : B → B → Type 0) (far : B → Type 0) (f : Place → Result (X × Place) CertRefusal) (g : X × Place → Result B CertRefusal) → Steps t (Both {X = X} t) (Past {X = X} t) f
    → ((x : X) → Steps t ok far (λ p. g (x, p))) → Steps t ok far (λ p. f p >>= g)
steps_then {X} {B} t ok far f g first next = record {
  near = λ p q n. goes_then t (Both {X = X} t) (Past {X = X} t) ok far (f p) (f q) g (first.near p q n)
      (λ x y k. subst (λ (z : X × Place). Goes t ok far (g x) (g z)) (sym k.1) ((next x.0).near x.1 k.0 k.2)) (λ x h. (next x.0).past x.1 h);
  past = λ p h. then_is (Past {X = X} t) (Beyond t) far (Beyond t) (f p) g (first.past p h) (λ e le. le) (λ x le. (next x.0).past x.1 le);
}

pub steps_go : {B : Type 0} (t : Two) (ok : B → B → Type 0) (far : B → Type 0) (f : Place → Result Place CertRefusal) (g : Place → Result B CertRefusal) → Steps t (Near t) (IsFar t) f
    → Steps t ok far g → Steps t ok far (λ p. f p >>= g)
steps_go t ok far f g first next = record {
  near = λ p q n. goes_then t (Near t) (IsFar t) ok far (f p) (f q) g (first.near p q n) next.near next.past;
  past = λ p h. then_is (IsFar t) (Beyond t) far (Beyond t) (f p) g (first.past p h) (λ e le. le) next.past;
}

pub steps_give : {X : Type 0} (t : Two) (x : X) → Steps t (Both {X = X} t) (Past {X = X} t) (λ p. done (x, p))
steps_give t x = record { near = λ p q n. inl ((x, q), refl, (q, refl, n)); past = λ p h. h }

pub steps_stay : (t : Two) → Steps t (Near t) (IsFar t) (λ p. done p)
steps_stay t = record { near = λ p q n. inl (q, refl, n); past = λ p h. h }

-- nothing is said of the value
abbrev pub AnyTwo : {A : Type 0} → A → A → Type 0
AnyTwo x y = Unit {0}

abbrev pub Any : {A : Type 0} → A → Type 0
Any x = Unit {0}

pub steps_last : {A B : Type 0} (t : Two) (f : Place → Result A CertRefusal) (g : A → B) → Steps t (AnyTwo {A = A}) (Any {A = A}) f → Steps t (AnyTwo {A = B}) (Any {A = B}) (λ p. f p >>= λ x. done (g x))
steps_last {A} {B} t f g first = record {
  near = λ p q n. goes_then t (AnyTwo {A = A}) (Any {A = A}) (AnyTwo {A = B}) (Any {A = B}) (f p) (f q) (λ x. done (g x)) (first.near p q n) (λ x y k. inr tt) (λ x h. tt);
  past = λ p h. then_is (Any {A = A}) (Beyond t) (Any {A = B}) (Beyond t) (f p) (λ x. done (g x)) (first.past p h) (λ e le. le) (λ x le. tt);
}
