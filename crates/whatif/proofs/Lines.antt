-- The lines of a script, one step after the other.
use Rattle.std.proofs.Common.{◌≡◌, ℕ, ◌+◌, ◌*◌, ◌/◌, ◌%◌, ◌<◌, List, [], ◌∷◌, ◌++◌, length, take, drop, get_or, Some, Ok, Err, Result, sym, ap, subst, ◌∙◌, arith, refl, append-nil}
use Rattle.std.proofs.lemmas.List.{take_more, take-append-drop}
use Rattle.std.proofs.lemmas.List.Concat.{flat_map-append}
use Rattle.std.proofs.lemmas.List.Elements.{All-cons, All-nil}
use Rattle.text_lines.specs.Lines.{Line, text_of, spelled}
use Rattle.text_lines.specs.Writing.{ended, failed}
use Rattle.text_lines.specs.Spelling.{decimal_word, fraction_word, millionths_word}
use Rattle.unit_scale.specs.declared.modes.LinkMode.{LinkMode}
use Rattle.mcf_base.specs.Sink.{AppendsFront, SinkView, Wrote}
use Rattle.mcf_base.proofs.Known.{wrote_then, wrote_stops}
use Rattle.std.proofs.lemmas.Option.{slice_get-get_or}
use Rattle.std.specs.Prelude.{codes}
use Rattle.flow_paths.specs.Evaluation.{Evaluation}
use Rattle.script.specs.declared.step.Step.{Step}
use Rattle.script.specs.declared.step.Step.TheVariants.{Edit, Show}
use Rattle.script.specs.Steps.{AreStepsOfCells, IsStep}
use Rattle.whatif.specs.Planned.{Planned, after_step, after_steps, shown_of}
use Rattle.whatif.specs.Shown.{IsStopped, show_line, shown_lines, shown_text}
use Rattle.unit_scale.proofs.LinkCaps.{with_link_length}

pub decimal_is : (whole micro n : ℕ) → micro < 1000000 → whole * 1000000 + micro ≡ n → decimal_word whole micro ≡ millionths_word n
decimal_is whole micro n six e =
    let w : whole ≡ n / 1000000 = omega arith in
    let m : micro ≡ n % 1000000 = omega arith in
    ap (λ k. decimal_word k micro) w ∙ ap (decimal_word (n / 1000000)) m

-- ---- steps behind steps

pub steps_append : (mode : LinkMode) (p : Planned) (xs ys : List Step) → after_steps mode p (xs ++ ys) ≡ after_steps mode (after_steps mode p xs) ys
steps_append mode p [] ys = refl
steps_append mode p (x ∷ xs) ys = steps_append mode (after_step mode p x) xs ys

lines_append : (mode : LinkMode) (p : Planned) (xs ys : List Step) → shown_lines mode p (xs ++ ys) ≡ shown_lines mode p xs ++ shown_lines mode (after_steps mode p xs) ys
lines_append mode p [] ys = refl
lines_append mode p (Show ∷ xs) ys = ap (λ (l : List Line). show_line (shown_of p) ∷ l) (lines_append mode p xs ys)
lines_append mode p (Edit link cap ∷ xs) ys = lines_append mode (after_step mode p (Edit link cap)) xs ys

text_append : (mode : LinkMode) (p : Planned) (xs ys : List Step) → shown_text mode p xs ++ shown_text mode (after_steps mode p xs) ys ≡ shown_text mode p (xs ++ ys)
text_append mode p xs ys = sym (flat_map-append spelled (shown_lines mode p xs) (shown_lines mode (after_steps mode p xs) ys)) ∙ ap text_of (sym (lines_append mode p xs ys))

-- one step more
pub after_more : (mode : LinkMode) (p : Planned) (steps : List Step) (i : ℕ) (d : Step) (now next : Planned) → i < length steps → now ≡ after_steps mode p (take i steps) → next ≡ after_step mode now (get_or steps i d) → next ≡ after_steps mode p (take (i + 1) steps)
after_more mode p steps i d now next lt e f =
    f ∙ (ap (λ (q : Planned). after_step mode q (get_or steps i d)) e ∙ (sym (steps_append mode p (take i steps) (get_or steps i d ∷ [])) ∙ ap (after_steps mode p) (sym (take_more steps i d lt))))

text_more : (mode : LinkMode) (p : Planned) (steps : List Step) (i : ℕ) (d : Step) (now : Planned) → i < length steps → now ≡ after_steps mode p (take i steps) → shown_text mode p (take i steps) ++ shown_text mode now (get_or steps i d ∷ []) ≡ shown_text mode p (take (i + 1) steps)
text_more mode p steps i d now lt e =
    ap (λ (q : Planned). shown_text mode p (take i steps) ++ shown_text mode q (get_or steps i d ∷ [])) e ∙ (text_append mode p (take i steps) (get_or steps i d ∷ []) ∙ ap (shown_text mode p) (sym (take_more steps i d lt)))

-- one step more was taken
pub step_wrote : {E : Type 0} (mode : LinkMode) (a b c : SinkView) (p : Planned) (steps : List Step) (i : ℕ) (d : Step) (now : Planned) → i < length steps → now ≡ after_steps mode p (take i steps)
    → Wrote a b (ended (Unit {0}) E tt) (shown_text mode p (take i steps)) → Wrote b c (ended (Unit {0}) E tt) (shown_text mode now (get_or steps i d ∷ [])) → Wrote a c (ended (Unit {0}) E tt) (shown_text mode p (take (i + 1) steps))
step_wrote {E} mode a b c p steps i d now lt e h k =
    subst (λ (l : List ℕ). Wrote a c (ended (Unit {0}) E tt) l) (text_more mode p steps i d now lt e)
    (wrote_then {A = Unit {0}} {B = Unit {0}} {E = E} a b c tt (Ok tt) (shown_text mode p (take i steps)) (shown_text mode now (get_or steps i d ∷ [])) h k)

-- a step that failed, and the text of all steps
pub step_stops : {E : Type 0} (mode : LinkMode) (a b c : SinkView) (x : E) (p : Planned) (steps : List Step) (i : ℕ) (d : Step) (now : Planned) → i < length steps → now ≡ after_steps mode p (take i steps)
    → Wrote a b (ended (Unit {0}) E tt) (shown_text mode p (take i steps)) → Wrote b c (failed (Unit {0}) E x) (shown_text mode now (get_or steps i d ∷ [])) → Wrote a c (failed (Unit {0}) E x) (shown_text mode p steps)
step_stops {E} mode a b c x p steps i d now lt e h k =
    let both = wrote_then {A = Unit {0}} {B = Unit {0}} {E = E} a b c tt (Err x) (shown_text mode p (take i steps)) (shown_text mode now (get_or steps i d ∷ [])) h k in
    let up_to = subst (λ (l : List ℕ). Wrote a c (failed (Unit {0}) E x) l) (text_more mode p steps i d now lt e) both in
    let all = wrote_stops {A = Unit {0}} {B = Unit {0}} {E = E} a c x (shown_text mode p (take (i + 1) steps)) (shown_text mode (after_steps mode p (take (i + 1) steps)) (drop (i + 1) steps)) up_to in
    subst (λ (l : List ℕ). Wrote a c (failed (Unit {0}) E x) l) (text_append mode p (take (i + 1) steps) (drop (i + 1) steps) ∙ ap (shown_text mode p) (take-append-drop (i + 1) steps)) all

-- the text of a `show` is its line
show_text_is : (mode : LinkMode) (p : Planned) (e : Evaluation) → e ≡ shown_of p → spelled (show_line e) ≡ shown_text mode p (Show ∷ [])
show_text_is mode p e is = ap (λ (x : Evaluation). spelled (show_line x)) is ∙ sym (append-nil (spelled (show_line (shown_of p))))

-- the line of a `show`
pub show_wrote : {E : Type 0} (mode : LinkMode) (a b : SinkView) (result : Result (Unit {0}) E) (p : Planned) (step : Step) (e : Evaluation) → step ≡ Show → e ≡ shown_of p
    → Wrote a b result (spelled (show_line e)) → Wrote a b result (shown_text mode p (step ∷ []))
show_wrote {E} mode a b result p step e shows is h =
    subst (λ (l : List ℕ). Wrote a b result l) (show_text_is mode p e is ∙ ap (λ (s : Step). shown_text mode p (s ∷ [])) (sym shows)) h

-- the step that failed is a `show`, and the plan is as the steps before it left it
pub stopped : {E : Type 0} (mode : LinkMode) (a b c : SinkView) (x : E) (p : Planned) (steps : List Step) (i : ℕ) (d : Step) (now new : Planned) → i < length steps → now ≡ after_steps mode p (take i steps)
    → get_or steps i d ≡ Show → new ≡ after_step mode now (get_or steps i d)
    → Wrote a b (ended (Unit {0}) E tt) (shown_text mode p (take i steps)) → Wrote b c (failed (Unit {0}) E x) (shown_text mode now (get_or steps i d ∷ []))
    → IsStopped mode p steps new a c
stopped {E} mode a b c x p steps i d now new lt e shows after h k =
    let is : new ≡ now = after ∙ ap (after_step mode now) shows in
    let text : shown_text mode now (get_or steps i d ∷ []) ≡ spelled (show_line (shown_of new)) = ap (λ (s : Step). shown_text mode now (s ∷ [])) shows ∙ sym (show_text_is mode now (shown_of now) refl) ∙ ap (λ (q : Planned). spelled (show_line (shown_of q))) (sym is) in
    record {
      count = i;
      shows = slice_get-get_or steps i d lt ∙ ap Some shows;
      same = is ∙ e;
      between = b.written;
      whole = h.ok;
      front = subst (AppendsFront b.written c.written) text k.err;
      last = (step_stops {E = E} mode a b c x p steps i d now lt e h k).cause.failed;
    }

-- steps change no number of capacities
pub caps_count : (mode : LinkMode) (p : Planned) (steps : List Step) → length (after_steps mode p steps).caps ≡ length p.caps
caps_count mode p [] = refl
caps_count mode p (Show ∷ steps) = caps_count mode p steps
caps_count mode p (Edit link cap ∷ steps) = caps_count mode (after_step mode p (Edit link cap)) steps ∙ with_link_length mode p.caps link cap

-- ---- steps of links

-- the first of the steps behind so many is of the links of the cells, however the steps before it left the capacities
pub step_of_cells : (mode : LinkMode) (p now : Planned) (steps : List Step) (i : ℕ) (d : Step) → i < length steps → now ≡ after_steps mode p (take i steps)
    → AreStepsOfCells mode (length p.caps) steps → AreStepsOfCells mode (length now.caps) (get_or steps i d ∷ [])
step_of_cells mode p now steps i d lt e h =
    let count : length now.caps ≡ length p.caps = ap (λ (q : Planned). length q.caps) e ∙ caps_count mode p (take i steps) in
    record {
      links = h.links;
      few = h.few;
      enough = omega (arith, count, h.enough);
      each = All-cons (IsStep h.links) (get_or steps i d) [] (h.each i d lt) (All-nil (IsStep h.links));
    }

-- ---- the words of a line

abbrev words : List ℕ → List ℕ → List ℕ → List ℕ → Line
words a b c d = codes "show" ∷ codes "lower" ∷ a ∷ b ∷ codes "upper" ∷ c ∷ d ∷ []

pub words_same : (a b c d x y z w : List ℕ) → a ≡ x → b ≡ y → c ≡ z → d ≡ w → spelled (words a b c d) ≡ spelled (words x y z w)
words_same a b c d x y z w e f g h =
    ap (λ t. spelled (words t b c d)) e ∙ (ap (λ t. spelled (words x t c d)) f ∙ (ap (λ t. spelled (words x y t d)) g ∙ ap (λ t. spelled (words x y z t)) h))

pub fraction_same : (a b x y : ℕ) → a ≡ x → b ≡ y → fraction_word a b ≡ fraction_word x y
fraction_same a b x y e f = ap (λ n. fraction_word n b) e ∙ ap (fraction_word x) f
