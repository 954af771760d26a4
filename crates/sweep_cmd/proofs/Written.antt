-- The lines of a sweep, one link after the other.
use Rattle.std.proofs.Common.{◌≡◌, ℕ, zero, suc, ◌+◌, ◌<◌, ◌≤◌, List, [], ◌∷◌, ◌++◌, length, take, drop, get_or, map, Ok, Err, sym, ap, subst, ◌∙◌, arith, refl, append-nil}
use Rattle.std.specs.Prelude.{zip}
use Rattle.std.proofs.lemmas.List.{take_all, take_more, take-append-drop}
use Rattle.std.proofs.lemmas.List.Concat.{flat_map-append}
use Rattle.text_lines.specs.Lines.{Line, text_of, spelled}
use Rattle.text_lines.specs.Writing.{ended, failed}
use Rattle.mcf_base.specs.Sink.{SinkView, Wrote}
use Rattle.mcf_base.proofs.Known.{wrote_then, wrote_stops}
use Rattle.sweep_cmd.specs.declared.swept.Swept.{Swept}
use Rattle.sweep_cmd.specs.Lines.{swept_line}

-- the lines of things that have ids, and of what is kept of them
abbrev pub lines : {X : Type 0} → (X → List ℕ) → List X → List Swept → List Line
lines f ids swept = map swept_line (zip (map f ids) swept)

pub lines_length : {X : Type 0} (f : X → List ℕ) (ids : List X) (swept : List Swept) → length ids ≡ length swept → length (lines f ids swept) ≡ length swept
lines_length f [] [] e = refl
lines_length f [] (b ∷ bs) e = absurd (omega arith)
lines_length f (x ∷ xs) [] e = absurd (omega arith)
lines_length f (x ∷ xs) (b ∷ bs) e = ap suc (lines_length f xs bs (omega arith))

line_at : {X : Type 0} (f : X → List ℕ) (ids : List X) (swept : List Swept) (i : ℕ) (x : X) (b : Swept) (d : Line) → i < length ids → i < length swept
    → get_or (lines f ids swept) i d ≡ swept_line (f (get_or ids i x), get_or swept i b)
line_at f [] bs i x b d lt lt' = absurd (omega arith)
line_at f (y ∷ ys) [] i x b d lt lt' = absurd (omega arith)
line_at f (y ∷ ys) (c ∷ cs) zero x b d lt lt' = refl
line_at f (y ∷ ys) (c ∷ cs) (suc i) x b d lt lt' = line_at f ys cs i x b d (omega arith) (omega arith)

here : {X : Type 0} (f : X → List ℕ) (ids : List X) (swept : List Swept) (i : ℕ) (x : X) (s : Swept) → i < length ids → i < length swept → s ≡ get_or swept i s
    → get_or (lines f ids swept) i [] ≡ swept_line (f (get_or ids i x), s)
here f ids swept i x s lt lt' at = line_at f ids swept i x s [] lt lt' ∙ ap (λ (b : Swept). swept_line (f (get_or ids i x), b)) (sym at)

more : (xs : List Line) (i : ℕ) (line : Line) → i < length xs → get_or xs i [] ≡ line → text_of (take i xs) ++ spelled line ≡ text_of (take (i + 1) xs)
more xs i line lt is =
    ap (λ (l : List ℕ). text_of (take i xs) ++ l) (sym (append-nil (spelled line))) ∙ (sym (flat_map-append spelled (take i xs) (line ∷ []))
    ∙ (ap (λ (l : Line). text_of (take i xs ++ l ∷ [])) (sym is) ∙ ap text_of (sym (take_more xs i [] lt))))

-- one line more was written
pub line_wrote : {E X : Type 0} (a b c : SinkView) (f : X → List ℕ) (ids : List X) (swept : List Swept) (i : ℕ) (x : X) (s : Swept) → length ids ≡ length swept → i < length swept → s ≡ get_or swept i s
    → Wrote a b (ended (Unit {0}) E tt) (text_of (take i (lines f ids swept))) → Wrote b c (ended (Unit {0}) E tt) (spelled (swept_line (f (get_or ids i x), s)))
    → Wrote a c (ended (Unit {0}) E tt) (text_of (take (i + 1) (lines f ids swept)))
line_wrote {E} {X} a b c f ids swept i x s e lt at h k =
    let line : Line = swept_line (f (get_or ids i x), s) in
    subst (λ (l : List ℕ). Wrote a c (ended (Unit {0}) E tt) l) (more (lines f ids swept) i line (omega (arith, lines_length f ids swept e)) (here f ids swept i x s (omega arith) lt at))
    (wrote_then {A = Unit {0}} {B = Unit {0}} {E = E} a b c tt (Ok tt) (text_of (take i (lines f ids swept))) (spelled line) h k)

-- a line that failed, and the text of all
pub line_stops : {E X : Type 0} (a b c : SinkView) (z : E) (f : X → List ℕ) (ids : List X) (swept : List Swept) (i : ℕ) (x : X) (s : Swept) → length ids ≡ length swept → i < length swept → s ≡ get_or swept i s
    → Wrote a b (ended (Unit {0}) E tt) (text_of (take i (lines f ids swept))) → Wrote b c (failed (Unit {0}) E z) (spelled (swept_line (f (get_or ids i x), s)))
    → Wrote a c (failed (Unit {0}) E z) (text_of (lines f ids swept))
line_stops {E} {X} a b c z f ids swept i x s e lt at h k =
    let line : Line = swept_line (f (get_or ids i x), s) in
    let all : List Line = lines f ids swept in
    let both = wrote_then {A = Unit {0}} {B = Unit {0}} {E = E} a b c tt (Err z) (text_of (take i all)) (spelled line) h k in
    let up_to = subst (λ (l : List ℕ). Wrote a c (failed (Unit {0}) E z) l) (more all i line (omega (arith, lines_length f ids swept e)) (here f ids swept i x s (omega arith) lt at)) both in
    let whole = wrote_stops {A = Unit {0}} {B = Unit {0}} {E = E} a c z (text_of (take (i + 1) all)) (text_of (drop (i + 1) all)) up_to in
    subst (λ (l : List ℕ). Wrote a c (failed (Unit {0}) E z) l) (sym (flat_map-append spelled (take (i + 1) all) (drop (i + 1) all)) ∙ ap text_of (take-append-drop (i + 1) all)) whole

-- all were written
pub all_written : {E X : Type 0} (a b : SinkView) (f : X → List ℕ) (ids : List X) (swept : List Swept) (i : ℕ) → length ids ≡ length swept → length swept ≤ i
    → Wrote a b (ended (Unit {0}) E tt) (text_of (take i (lines f ids swept))) → Wrote a b (ended (Unit {0}) E tt) (text_of (lines f ids swept))
all_written {E} a b f ids swept i e le h =
    subst (λ (l : List Line). Wrote a b (ended (Unit {0}) E tt) (text_of l)) (take_all i (lines f ids swept) (omega (arith, lines_length f ids swept e))) h
