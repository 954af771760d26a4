-- The lines of a sweep, one link after the other.
use Rattle.std.proofs.Common.{◌≡◌, ℕ, zero, suc, ◌+◌, ◌<◌, ◌≤◌, List, [], ◌∷◌, ◌++◌, length, take, drop, get_or, map, Ok, Err, sym, ap, subst, ◌∙◌, arith, refl, append-nil}
use Rattle.std.specs.Prelude.{zip}
use Rattle.std.proofs.lemmas.List.{take_all, take_more, take-append-drop}
use Rattle.std.proofs.lemmas.List.Concat.{flat_map-append}
use Rattle.text_lines.specs.Lines.{Line, text_of, spelled}
use Rattle.text_lines.specs.Writing.{ended, failed}
use Rattle.mcf_base.specs.Sink.{SinkView, Wrote}
use Rattle.mcf_base.proofs.Known.{wrote_then, wrote_stops}
use Rattle.whatif.specs.declared.bounds.Bounds.{Bounds}
use Rattle.whatif.specs.Planned.{evaluation_of}
use Rattle.sweep.specs.Lines.{sweep_line}

-- the lines of things that have ids, and of their bounds
abbrev pub lines : {X : Type 0} → (X → List ℕ) → List X → List Bounds → List Line
lines f ids bounds = map sweep_line (zip (map f ids) (map evaluation_of bounds))

pub lines_length : {X : Type 0} (f : X → List ℕ) (ids : List X) (bounds : List Bounds) → length ids ≡ length bounds → length (lines f ids bounds) ≡ length bounds
lines_length f [] [] e = refl
lines_length f [] (b ∷ bs) e = absurd (omega arith)
lines_length f (x ∷ xs) [] e = absurd (omega arith)
lines_length f (x ∷ xs) (b ∷ bs) e = ap suc (lines_length f xs bs (omega arith))

line_at : {X : Type 0} (f : X → List ℕ) (ids : List X) (bounds : List Bounds) (i : ℕ) (x : X) (b : Bounds) (d : Line) → i < length ids → i < length bounds
    → get_or (lines f ids bounds) i d ≡ sweep_line (f (get_or ids i x), evaluation_of (get_or bounds i b))
line_at f [] bs i x b d lt lt' = absurd (omega arith)
line_at f (y ∷ ys) [] i x b d lt lt' = absurd (omega arith)
line_at f (y ∷ ys) (c ∷ cs) zero x b d lt lt' = refl
line_at f (y ∷ ys) (c ∷ cs) (suc i) x b d lt lt' = line_at f ys cs i x b d (omega arith) (omega arith)

here : {X : Type 0} (f : X → List ℕ) (ids : List X) (bounds : List Bounds) (i : ℕ) (x : X) (s : Bounds) → i < length ids → i < length bounds → s ≡ get_or bounds i s
    → get_or (lines f ids bounds) i [] ≡ sweep_line (f (get_or ids i x), evaluation_of s)
here f ids bounds i x s lt lt' at = line_at f ids bounds i x s [] lt lt' ∙ ap (λ (b : Bounds). sweep_line (f (get_or ids i x), evaluation_of b)) (sym at)

more : (xs : List Line) (i : ℕ) (line : Line) → i < length xs → get_or xs i [] ≡ line → text_of (take i xs) ++ spelled line ≡ text_of (take (i + 1) xs)
more xs i line lt is =
    ap (λ (l : List ℕ). text_of (take i xs) ++ l) (sym (append-nil (spelled line))) ∙ (sym (flat_map-append spelled (take i xs) (line ∷ []))
    ∙ (ap (λ (l : Line). text_of (take i xs ++ l ∷ [])) (sym is) ∙ ap text_of (sym (take_more xs i [] lt))))

-- one line more was written
pub line_wrote : {E X : Type 0} (a b c : SinkView) (f : X → List ℕ) (ids : List X) (bounds : List Bounds) (i : ℕ) (x : X) (s : Bounds) → length ids ≡ length bounds → i < length bounds → s ≡ get_or bounds i s
    → Wrote a b (ended (Unit {0}) E tt) (text_of (take i (lines f ids bounds))) → Wrote b c (ended (Unit {0}) E tt) (spelled (sweep_line (f (get_or ids i x), evaluation_of s)))
    → Wrote a c (ended (Unit {0}) E tt) (text_of (take (i + 1) (lines f ids bounds)))
line_wrote {E} {X} a b c f ids bounds i x s e lt at h k =
    let line : Line = sweep_line (f (get_or ids i x), evaluation_of s) in
    subst (λ (l : List ℕ). Wrote a c (ended (Unit {0}) E tt) l) (more (lines f ids bounds) i line (omega (arith, lines_length f ids bounds e)) (here f ids bounds i x s (omega arith) lt at))
    (wrote_then {A = Unit {0}} {B = Unit {0}} {E = E} a b c tt (Ok tt) (text_of (take i (lines f ids bounds))) (spelled line) h k)

-- a line that failed, and the text of all
pub line_stops : {E X : Type 0} (a b c : SinkView) (z : E) (f : X → List ℕ) (ids : List X) (bounds : List Bounds) (i : ℕ) (x : X) (s : Bounds) → length ids ≡ length bounds → i < length bounds → s ≡ get_or bounds i s
    → Wrote a b (ended (Unit {0}) E tt) (text_of (take i (lines f ids bounds))) → Wrote b c (failed (Unit {0}) E z) (spelled (sweep_line (f (get_or ids i x), evaluation_of s)))
    → Wrote a c (failed (Unit {0}) E z) (text_of (lines f ids bounds))
line_stops {E} {X} a b c z f ids bounds i x s e lt at h k =
    let line : Line = sweep_line (f (get_or ids i x), evaluation_of s) in
    let all : List Line = lines f ids bounds in
    let both = wrote_then {A = Unit {0}} {B = Unit {0}} {E = E} a b c tt (Err z) (text_of (take i all)) (spelled line) h k in
    let up_to = subst (λ (l : List ℕ). Wrote a c (failed (Unit {0}) E z) l) (more all i line (omega (arith, lines_length f ids bounds e)) (here f ids bounds i x s (omega arith) lt at)) both in
    let whole = wrote_stops {A = Unit {0}} {B = Unit {0}} {E = E} a c z (text_of (take (i + 1) all)) (text_of (drop (i + 1) all)) up_to in
    subst (λ (l : List ℕ). Wrote a c (failed (Unit {0}) E z) l) (sym (flat_map-append spelled (take (i + 1) all) (drop (i + 1) all)) ∙ ap text_of (take-append-drop (i + 1) all)) whole

-- all were written
pub all_written : {E X : Type 0} (a b : SinkView) (f : X → List ℕ) (ids : List X) (bounds : List Bounds) (i : ℕ) → length ids ≡ length bounds → length bounds ≤ i
    → Wrote a b (ended (Unit {0}) E tt) (text_of (take i (lines f ids bounds))) → Wrote a b (ended (Unit {0}) E tt) (text_of (lines f ids bounds))
all_written {E} a b f ids bounds i e le h =
    subst (λ (l : List Line). Wrote a b (ended (Unit {0}) E tt) (text_of l)) (take_all i (lines f ids bounds) (omega (arith, lines_length f ids bounds e))) h
