-- One text put behind another.
use Rattle.std.proofs.Common.{◌≡◌, ℕ, ◌+◌, ◌<◌, ◌≤◌, arith, get_or, subst, List, [], ◌∷◌, ◌++◌, take, length, Option, Some, None, Result, Ok, Err, sym, ap, ◌∙◌, append_assoc}
use Rattle.std.proofs.lemmas.List.{append-nil, length-append, length-drop, take-append-drop, take_more}
use Rattle.std.proofs.Math.Seq.{take-append_seam}
use Rattle.std.specs.Prelude.{drop, OnOk}
use Rattle.std.specs.Io.KnownBytes.{Appends}
use Rattle.mcf_base.proofs.Known.{Appends-then, Appends-none}
use Rattle.mcf_base.proofs.Counting.{causes_then, causes_stop, causes_none}
use Rattle.mcf_base.specs.Sink.{AppendsFront, SinkView, Wrote}
use Rattle.text_lines.specs.Writing.{given, IsLost, Puts, ended, failed}

-- the output got what waited
pub flushed : (old new : Option (List ℕ)) (waiting : List ℕ) → Appends old new waiting → Appends (given old waiting) (given new []) []
flushed None new waiting h = tt
flushed (Some xs) None waiting h = absurd h
flushed (Some xs) (Some ys) waiting h = append-nil ys ∙ h ∙ sym (append-nil (xs ++ waiting))

-- what waited is part in the output and part lost
behind_front : (old new : Option (List ℕ)) (waiting : List ℕ) (n : ℕ) → Appends old new (take n waiting) → Appends (given old waiting) (given new (drop n waiting)) []
behind_front None new waiting n h = tt
behind_front (Some xs) None waiting n h = absurd h
behind_front (Some xs) (Some ys) waiting n h = ap (λ (l : List ℕ). l ++ drop n waiting) h ∙ append_assoc xs (take n waiting) (drop n waiting) ∙ ap (λ (l : List ℕ). xs ++ l) (take-append-drop n waiting) ∙ sym (append-nil (xs ++ waiting))

pub broken : (old new : Option (List ℕ)) (waiting : List ℕ) → AppendsFront old new waiting → (rest : List ℕ) × IsLost old new waiting [] rest
broken old new waiting h = (
  drop h.0 waiting,
  record {
    begun = omega (arith, h.1);
    some = omega (arith, length-drop h.0 waiting, h.1);
    all = behind_front old new waiting h.0 h.2;
  },
)

-- more waits
pub waits_more : (old : Option (List ℕ)) (waiting more : List ℕ) → Appends (given old waiting) (given old (waiting ++ more)) more
waits_more None waiting more = tt
waits_more (Some xs) waiting more = sym (append_assoc xs waiting more)

pub grows_then : (a b c : Option (List ℕ)) → (x : List ℕ) × Appends a b x → (y : List ℕ) × Appends b c y → (z : List ℕ) × Appends a c z
grows_then a b c p q = (p.0 ++ q.0, Appends-then a b c p.0 q.0 p.1 q.1)

lost_then : (a b c : Option (List ℕ)) (u v p q : List ℕ) → Appends (given a u) (given b v) p → length v ≤ length u + length p → (rest : List ℕ) × IsLost b c v q rest → (rest : List ℕ) × IsLost a c u (p ++ q) rest
lost_then a b c u v p q h le k = (
  k.0,
  record {
    begun = omega (arith, le, k.1.begun, length-append p q);
    some = k.1.some;
    all = Appends-then (given a u) (given b v) (given c k.0) p q h k.1.all;
  },
)

-- one put after another
pub puts_then : {A B E : Type 0} (a b c : SinkView) (u v w : List ℕ) (x : A) (r : Result B E) (p q : List ℕ)
    → Puts a b u v (ended A E x) p → Puts b c v w r q → Puts a c u w r (p ++ q)
puts_then {A} {B} {E} a b c u v w x (Ok y) p q h k = record {
  grows = grows_then a.written b.written c.written h.grows k.grows;
  ok = Appends-then (given a.written u) (given b.written v) (given c.written w) p q h.ok k.ok;
  within = omega (arith, h.within, k.within, length-append p q);
  err = tt;
  cause = causes_then {A = A} {B = B} {E = E} a.faults b.faults c.faults x (Ok y) h.cause k.cause;
}
puts_then {A} {B} {E} a b c u v w x (Err e) p q h k = record {
  grows = grows_then a.written b.written c.written h.grows k.grows;
  ok = tt;
  within = tt;
  err = lost_then a.written b.written c.written u v p q h.ok h.within k.err;
  cause = causes_then {A = A} {B = B} {E = E} a.faults b.faults c.faults x (Err e) h.cause k.cause;
}

longer : (a b : Option (List ℕ)) (u rest p q : List ℕ) → Appends (given a u) (given b rest) p → Appends (given a u) (given b (rest ++ q)) (p ++ q)
longer None b u rest p q h = tt
longer (Some xs) None u rest p q h = absurd h
longer (Some xs) (Some ys) u rest p q h = sym (append_assoc ys rest q) ∙ ap (λ (l : List ℕ). l ++ q) h ∙ append_assoc (xs ++ u) p q

lost_more : (a b : Option (List ℕ)) (u p q : List ℕ) → (rest : List ℕ) × IsLost a b u p rest → (rest : List ℕ) × IsLost a b u (p ++ q) rest
lost_more a b u p q h = (
  h.0 ++ q,
  record {
    begun = omega (arith, h.1.begun, length-append p q);
    some = omega (arith, h.1.some, length-append h.0 q);
    all = longer a b u h.0 p q h.1.all;
  },
)

-- a put that failed, and a text that was to follow
pub puts_stop : {A B E : Type 0} (a b : SinkView) (u v w : List ℕ) (e : E) (p q : List ℕ) → Puts a b u v (failed A E e) p → Puts a b u w (failed B E e) (p ++ q)
puts_stop {A} {B} {E} a b u v w e p q h = record {
  grows = h.grows;
  ok = tt;
  within = tt;
  err = lost_more a.written b.written u p q h.err;
  cause = causes_stop {A = A} {B = B} {E = E} a.faults b.faults e h.cause;
}

-- nothing was put
pub puts_none : {E : Type 0} (a : SinkView) (u : List ℕ) → Puts a a u u (ended (Unit {0}) E tt) []
puts_none {E} a u = record {
  grows = ([], Appends-none a.written);
  ok = Appends-none (given a.written u);
  within = omega arith;
  err = tt;
  cause = causes_none {A = Unit {0}} {E = E} a.faults tt;
}

-- one byte more waits
pub puts_byte : {E : Type 0} (a b : SinkView) (u v : List ℕ) (byte : ℕ) (p : List ℕ) → Puts a b u v (ended (Unit {0}) E tt) p
    → Puts a b u (v ++ byte ∷ []) (ended (Unit {0}) E tt) (p ++ byte ∷ [])
puts_byte a b u v byte p h = record {
  grows = h.grows;
  ok = Appends-then (given a.written u) (given b.written v) (given b.written (v ++ byte ∷ [])) p (byte ∷ []) h.ok (waits_more b.written v (byte ∷ []));
  within = omega (arith, h.within, length-append v (byte ∷ []), length-append p (byte ∷ []));
  err = tt;
  cause = h.cause;
}

pub puts_flushed : {E : Type 0} (a b c : SinkView) (u v w : List ℕ) (p : List ℕ) → Puts a b u v (ended (Unit {0}) E tt) p → Puts b c v w (ended (Unit {0}) E tt) [] → Puts a c u w (ended (Unit {0}) E tt) p
puts_flushed a b c u v w p h k = rw append-nil at (puts_then a b c u v w tt (ended (Unit {0}) _ tt) p [] h k)

-- the output took a part of what waited
pub broken_off : {E : Type 0} (a b : SinkView) (u piece : List ℕ) (e : E) → piece ≡ u → Wrote a b (failed (Unit {0}) E e) piece → Puts a b u u (failed (Unit {0}) E e) []
broken_off a b u piece e same h =
    let front : AppendsFront a.written b.written u = subst (AppendsFront a.written b.written) same h.err in
    record { grows = (take front.0 u, front.2); ok = tt; within = tt; err = broken a.written b.written u front; cause = h.cause }

-- a piece of which a byte could not be put
pub stops_in_piece : {E : Type 0} (a b c : SinkView) (u v w : List ℕ) (e : E) (piece : List ℕ) (i byte : ℕ) → i < length piece → get_or piece i 0 ≡ byte
    → Puts a b u v (ended (Unit {0}) E tt) (take i piece) → Puts b c v w (failed (Unit {0}) E e) (byte ∷ []) → Puts a c u w (failed (Unit {0}) E e) piece
stops_in_piece a b c u v w e piece i byte lt is h k =
    let both = puts_then a b c u v w tt (failed (Unit {0}) _ e) (take i piece) (byte ∷ []) h k in
    let all = puts_stop a c u w w e (take i piece ++ byte ∷ []) (drop (i + 1) piece) both in
    let same : (take i piece ++ byte ∷ []) ++ drop (i + 1) piece ≡ piece = ap (λ b. (take i piece ++ b ∷ []) ++ drop (i + 1) piece) (sym is) ∙ ap (λ (l : List ℕ). l ++ drop (i + 1) piece) (sym (take_more piece i 0 lt)) ∙ take-append-drop (i + 1) piece in
    subst (λ (l : List ℕ). Puts a c u w (failed (Unit {0}) _ e) l) same all

pub one_byte_on : {E : Type 0} (a b c : SinkView) (u v w : List ℕ) (piece : List ℕ) (i byte : ℕ) → i < length piece → get_or piece i 0 ≡ byte
    → Puts a b u v (ended (Unit {0}) E tt) (take i piece) → Puts b c v w (ended (Unit {0}) E tt) (byte ∷ []) → Puts a c u w (ended (Unit {0}) E tt) (take (i + 1) piece)
one_byte_on {E} a b c u v w piece i byte lt is h k =
    let both = puts_then a b c u v w tt (ended (Unit {0}) E tt) (take i piece) (byte ∷ []) h k in
    let same : take i piece ++ byte ∷ [] ≡ take (i + 1) piece = ap (λ b. take i piece ++ b ∷ []) (sym is) ∙ sym (take_more piece i 0 lt) in
    subst (λ (l : List ℕ). Puts a c u w (ended (Unit {0}) E tt) l) same both

past : (a b : Option (List ℕ)) (piece : List ℕ) → Appends a b piece → Appends (given a []) (given b []) piece
past None b piece h = tt
past (Some xs) None piece h = absurd h
past (Some xs) (Some ys) piece h = append-nil ys ∙ h ∙ ap (λ (l : List ℕ). l ++ piece) (sym (append-nil xs))

front_past : (a b : Option (List ℕ)) (piece : List ℕ) (n : ℕ) → Appends a b (take n piece) → Appends (given a []) (given b (drop n piece)) piece
front_past None b piece n h = tt
front_past (Some xs) None piece n h = absurd h
front_past (Some xs) (Some ys) piece n h = ap (λ (l : List ℕ). l ++ drop n piece) h ∙ append_assoc xs (take n piece) (drop n piece) ∙ ap (λ (l : List ℕ). xs ++ l) (take-append-drop n piece) ∙ ap (λ (l : List ℕ). l ++ piece) (sym (append-nil xs))

broken_past : (a b : Option (List ℕ)) (piece : List ℕ) → AppendsFront a b piece → (rest : List ℕ) × IsLost a b [] piece rest
broken_past a b piece h = (
  drop h.0 piece,
  record {
    begun = omega (arith, h.1);
    some = omega (arith, length-drop h.0 piece, h.1);
    all = front_past a b piece h.0 h.2;
  },
)

-- nothing waits before or after, and the piece went to the output, or some front of it
pub puts_past : {E : Type 0} (a b : SinkView) (u piece : List ℕ) (r : Result (Unit {0}) E) → u ≡ [] → Wrote a b r piece → Puts a b u u r piece
puts_past {E} a b u piece (Ok x) none h = record {
  grows = (piece, h.ok);
  ok = rw none (past a.written b.written piece h.ok);
  within = omega arith;
  err = tt;
  cause = h.cause;
}
puts_past {E} a b u piece (Err e) none h = record {
  grows = (take h.err.0 piece, h.err.2);
  ok = tt;
  within = tt;
  err = rw none (broken_past a.written b.written piece h.err);
  cause = h.cause;
}

cancel_front : (xs ys zs : List ℕ) → xs ++ ys ≡ xs ++ zs → ys ≡ zs
cancel_front [] ys zs e = e
cancel_front (x ∷ xs) ys zs e = cancel_front xs ys zs cc

-- what was put where nothing waits, and of which nothing waits, was written whole
whole : (a b : Option (List ℕ)) (text : List ℕ) → Appends (given a []) (given b []) text → Appends a b text
whole None b text h = tt
whole (Some xs) None text h = absurd h
whole (Some xs) (Some ys) text h = sym (append-nil ys) ∙ h ∙ ap (λ (l : List ℕ). l ++ text) (append-nil xs)

-- what could not be put was written in some front of it
front : (a b : Option (List ℕ)) (more rest text : List ℕ) → Appends a b more → IsLost a b [] text rest → AppendsFront a b text
front None b more rest text g h = (0, omega (arith, h.begun), tt)
front (Some xs) None more rest text g h = absurd g
front (Some xs) (Some ys) more rest text g h =
    let all : xs ++ (more ++ rest) ≡ xs ++ text = sym (append_assoc xs more rest) ∙ ap (λ (l : List ℕ). l ++ rest) (sym g) ∙ h.all ∙ ap (λ (l : List ℕ). l ++ text) (append-nil xs) in
    let same : more ++ rest ≡ text = cancel_front xs (more ++ rest) text all in
    let first : take (length more) text ≡ more = ap (take (length more)) (sym same) ∙ take-append_seam more rest in
    (length more, omega (arith, ap length same, length-append more rest, h.some), g ∙ ap (λ (l : List ℕ). xs ++ l) (sym first))

-- a text that was put where nothing waits, and of which nothing waits, was written
pub written_whole : {E : Type 0} (a b : SinkView) (text : List ℕ) → Puts a b [] [] (ended (Unit {0}) E tt) text → Wrote a b (ended (Unit {0}) E tt) text
written_whole a b text h = record { ok = whole a.written b.written text h.ok; err = tt; cause = h.cause }

-- of one that could not be put a front was written
pub written_front : {E : Type 0} (a b : SinkView) (w text : List ℕ) (e : E) → Puts a b [] w (failed (Unit {0}) E e) text → Wrote a b (failed (Unit {0}) E e) text
written_front a b w text e h = record { ok = tt; err = front a.written b.written h.grows.0 h.err.0 text h.grows.1 h.err.1; cause = h.cause }

-- the buffer that has the text was written out, or a front of it was
pub written_out : {E : Type 0} (a b c : SinkView) (v w text : List ℕ) (r : Result (Unit {0}) E) → Puts a b [] v (ended (Unit {0}) E tt) text → Puts b c v w r [] → OnOk r (w ≡ []) → Wrote a c r text
written_out {E} a b c v w text (Ok tt) h k none =
    let all = rw append-nil at (puts_then a b c [] v w tt (ended (Unit {0}) E tt) text [] h k) in
    written_whole {E = E} a c text (subst (λ (x : List ℕ). Puts a c [] x (ended (Unit {0}) E tt) text) none all)
written_out {E} a b c v w text (Err e) h k none =
    written_front {E = E} a c w text e (rw append-nil at (puts_then a b c [] v w tt (failed (Unit {0}) E e) text [] h k))
