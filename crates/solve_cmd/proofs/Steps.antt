-- Three texts, one put behind another; and texts put one for each item of a list.
use Rattle.std.proofs.Common.{◌≡◌, ℕ, ◌+◌, ◌<◌, List, [], ◌∷◌, ◌++◌, length, get_or, take, drop, map, Option, Result, sym, ap, subst, ◌∙◌, append_assoc}
use Rattle.std.proofs.lemmas.Grind.{flat_map-append}
use Rattle.std.specs.Prelude.{codes}
use Rattle.std.proofs.lemmas.List.{append-nil, map-append, take-append-drop, take_more}
use Rattle.text_lines.specs.Lines.{Line, spelled, text_of}
use Rattle.sndlib_grammar.specs.Rows.{NetRows, names_of_nodes}
use Rattle.sndlib_grammar.specs.Canonical.{canonical_text, closing_line, first_line, opening_line, section, node_line, link_line, demand_line}
use Rattle.text_lines.specs.Spelling.{behind}
use Rattle.mcf_base.specs.Sink.{SinkView}
use Rattle.text_lines.specs.Writing.{Puts, ended, failed}
use Rattle.text_lines.proofs.Joining.{joined_is}
use Rattle.text_lines.proofs.Putting.{puts_then, puts_stop}

pub first_stops : {E : Type 0} (a b : SinkView) (u v : List ℕ) (e : E) (p q r : List ℕ) → Puts a b u v (failed (Unit {0}) E e) p → Puts a b u v (failed (Unit {0}) E e) (p ++ (q ++ r))
first_stops {E} a b u v e p q r h = puts_stop a b u v v e p (q ++ r) h

pub second_stops : {E : Type 0} (a b c : SinkView) (u v w : List ℕ) (e : E) (p q r : List ℕ) → Puts a b u v (ended (Unit {0}) E tt) p → Puts b c v w (failed (Unit {0}) E e) q → Puts a c u w (failed (Unit {0}) E e) (p ++ (q ++ r))
second_stops {E} a b c u v w e p q r h k = puts_then a b c u v w tt (failed (Unit {0}) E e) p (q ++ r) h (puts_stop b c v w w e q r k)

pub three_put : {E : Type 0} (a b c d : SinkView) (u v w z : List ℕ) (result : Result (Unit {0}) E) (p q r : List ℕ) → Puts a b u v (ended (Unit {0}) E tt) p → Puts b c v w (ended (Unit {0}) E tt) q
    → Puts c d w z result r → Puts a d u z result (p ++ (q ++ r))
three_put {E} a b c d u v w z result p q r h k l = puts_then a b d u v z tt result p (q ++ r) h (puts_then b c d v w z tt result q r k l)

-- ---- a line that begins with an empty word

entry_is : (front middle back : Line) → behind front ++ (behind middle ++ (behind back ++ 10 ∷ [])) ≡ spelled ([] ∷ (front ++ (middle ++ back)))
entry_is front middle back =
    let parts : behind (front ++ (middle ++ back)) ≡ behind front ++ (behind middle ++ behind back) = flat_map-append (λ w. 32 ∷ w) front (middle ++ back) ∙ ap (λ (l : List ℕ). behind front ++ l) (flat_map-append (λ w. 32 ∷ w) middle back) in
    sym (ap (λ (l : List ℕ). l ++ 10 ∷ []) (joined_is [] (front ++ (middle ++ back)) ∙ parts)
    ∙ append_assoc (behind front) (behind middle ++ behind back) (10 ∷ []) ∙ ap (λ (l : List ℕ). behind front ++ l) (append_assoc (behind middle) (behind back) (10 ∷ [])))

pub entry_first_stops : {E : Type 0} (a b : SinkView) (u v : List ℕ) (e : E) (front middle back : Line) → Puts a b u v (failed (Unit {0}) E e) (behind front) → Puts a b u v (failed (Unit {0}) E e) (spelled ([] ∷ (front ++ (middle ++ back))))
entry_first_stops {E} a b u v e front middle back h = subst (λ (l : List ℕ). Puts a b u v (failed (Unit {0}) E e) l) (entry_is front middle back) (first_stops a b u v e (behind front) (behind middle) (behind back ++ 10 ∷ []) h)

pub entry_second_stops : {E : Type 0} (a b c : SinkView) (u v w : List ℕ) (e : E) (front middle back : Line) → Puts a b u v (ended (Unit {0}) E tt) (behind front) → Puts b c v w (failed (Unit {0}) E e) (behind middle)
    → Puts a c u w (failed (Unit {0}) E e) (spelled ([] ∷ (front ++ (middle ++ back))))
entry_second_stops {E} a b c u v w e front middle back h k = subst (λ (l : List ℕ). Puts a c u w (failed (Unit {0}) E e) l) (entry_is front middle back) (second_stops a b c u v w e (behind front) (behind middle) (behind back ++ 10 ∷ []) h k)

pub entry_put : {E : Type 0} (a b c d : SinkView) (u v w z : List ℕ) (result : Result (Unit {0}) E) (front middle back : Line) → Puts a b u v (ended (Unit {0}) E tt) (behind front) → Puts b c v w (ended (Unit {0}) E tt) (behind middle)
    → Puts c d w z result (behind back ++ 10 ∷ []) → Puts a d u z result (spelled ([] ∷ (front ++ (middle ++ back))))
entry_put {E} a b c d u v w z result front middle back h k l = subst (λ (t : List ℕ). Puts a d u z result t) (entry_is front middle back) (three_put a b c d u v w z result (behind front) (behind middle) (behind back ++ 10 ∷ []) h k l)

-- ---- a line for each item

one_longer : {X : Type 0} (words : X → Line) (xs : List X) (i : ℕ) (x : X) → i < length xs → text_of (map words (take i xs)) ++ spelled (words (get_or xs i x)) ≡ text_of (map words (take (i + 1) xs))
one_longer words xs i x lt =
    ap (λ (l : List ℕ). text_of (map words (take i xs)) ++ l) (sym (append-nil (spelled (words (get_or xs i x)))))
    ∙ sym (flat_map-append spelled (map words (take i xs)) (words (get_or xs i x) ∷ []))
    ∙ ap text_of (sym (map-append words (take i xs) (get_or xs i x ∷ []))) ∙ ap (λ ys. text_of (map words ys)) (sym (take_more xs i x lt))

pub line_more_put : {X E : Type 0} (words : X → Line) (a b c : SinkView) (u v w : List ℕ) (xs : List X) (i : ℕ) (x : X) → i < length xs
    → Puts a b u v (ended (Unit {0}) E tt) (text_of (map words (take i xs))) → Puts b c v w (ended (Unit {0}) E tt) (spelled (words (get_or xs i x))) → Puts a c u w (ended (Unit {0}) E tt) (text_of (map words (take (i + 1) xs)))
line_more_put {X} {E} words a b c u v w xs i x lt h k =
    subst (λ (l : List ℕ). Puts a c u w (ended (Unit {0}) E tt) l) (one_longer words xs i x lt) (puts_then a b c u v w tt (ended (Unit {0}) E tt) (text_of (map words (take i xs))) (spelled (words (get_or xs i x))) h k)

pub line_stops : {X E : Type 0} (words : X → Line) (a b c : SinkView) (u v w : List ℕ) (e : E) (xs : List X) (i : ℕ) (x : X) → i < length xs
    → Puts a b u v (ended (Unit {0}) E tt) (text_of (map words (take i xs))) → Puts b c v w (failed (Unit {0}) E e) (spelled (words (get_or xs i x))) → Puts a c u w (failed (Unit {0}) E e) (text_of (map words xs))
line_stops {X} {E} words a b c u v w e xs i x lt h k =
    let both = puts_then a b c u v w tt (failed (Unit {0}) E e) (text_of (map words (take i xs))) (spelled (words (get_or xs i x))) h k in
    let so_far = subst (λ (l : List ℕ). Puts a c u w (failed (Unit {0}) E e) l) (one_longer words xs i x lt) both in
    let all = puts_stop a c u w w e (text_of (map words (take (i + 1) xs))) (text_of (map words (drop (i + 1) xs))) so_far in
    let same : text_of (map words (take (i + 1) xs)) ++ text_of (map words (drop (i + 1) xs)) ≡ text_of (map words xs) =
    sym (flat_map-append spelled (map words (take (i + 1) xs)) (map words (drop (i + 1) xs))) ∙ ap text_of (sym (map-append words (take (i + 1) xs) (drop (i + 1) xs)) ∙ ap (map words) (take-append-drop (i + 1) xs)) in
    subst (λ (l : List ℕ). Puts a c u w (failed (Unit {0}) E e) l) same all

-- ---- the whole text

-- a section behind another line: its opening, its entries, its closing with what follows
pub section_is : {X : Type 0} (name : List ℕ) (words : X → Line) (xs : List X) → text_of (section name words xs) ≡ spelled (opening_line name) ++ (text_of (map words xs) ++ spelled closing_line)
section_is name words xs = ap (λ (l : List ℕ). spelled (opening_line name) ++ l) (flat_map-append spelled (map words xs) (closing_line ∷ []) ∙ ap (λ (l : List ℕ). text_of (map words xs) ++ l) (append-nil (spelled closing_line)))

abbrev pub opens_nodes : List ℕ
opens_nodes = spelled first_line ++ spelled (opening_line (codes "NODES"))

abbrev pub opens_links : List ℕ
opens_links = spelled closing_line ++ spelled (opening_line (codes "LINKS"))

abbrev pub opens_demands : List ℕ
opens_demands = spelled closing_line ++ spelled (opening_line (codes "DEMANDS"))

abbrev pub node_lines : NetRows → List ℕ
node_lines rows = text_of (map node_line rows.nodes)

abbrev pub link_lines : NetRows → List ℕ
link_lines rows = text_of (map (link_line (names_of_nodes rows)) rows.links)

abbrev pub demand_lines : NetRows → List ℕ
demand_lines rows = text_of (map (demand_line (names_of_nodes rows)) rows.demands)

-- the text from the opening of the demands on, and from that of the links on
abbrev pub from_demands : NetRows → List ℕ
from_demands rows = opens_demands ++ (demand_lines rows ++ spelled closing_line)

abbrev pub from_links : NetRows → List ℕ
from_links rows = opens_links ++ (link_lines rows ++ from_demands rows)

regroup : (f n xs c l ys d zs : List ℕ) → f ++ ((n ++ (xs ++ c)) ++ ((l ++ (ys ++ c)) ++ (d ++ (zs ++ c)))) ≡ (f ++ n) ++ (xs ++ ((c ++ l) ++ (ys ++ ((c ++ d) ++ (zs ++ c)))))
regroup f n xs c l ys d zs = simp append_assoc

ap3 : (f : List ℕ → List ℕ → List ℕ → List ℕ) {a b c x y z : List ℕ} → a ≡ x → b ≡ y → c ≡ z → f a b c ≡ f x y z
ap3 f {b = b} {c = c} {x = x} {y = y} p q r = ap (λ t. f t b c) p ∙ ap (λ t. f x t c) q ∙ ap (λ t. f x y t) r

text_is : (rows : NetRows) → opens_nodes ++ (node_lines rows ++ from_links rows) ≡ canonical_text rows
text_is rows =
    let n = section (codes "NODES") node_line rows.nodes in
    let l = section (codes "LINKS") (link_line (names_of_nodes rows)) rows.links in
    let d = section (codes "DEMANDS") (demand_line (names_of_nodes rows)) rows.demands in
    let n_is = section_is (codes "NODES") node_line rows.nodes in
    let l_is = section_is (codes "LINKS") (link_line (names_of_nodes rows)) rows.links in
    let d_is = section_is (codes "DEMANDS") (demand_line (names_of_nodes rows)) rows.demands in
    let parts : canonical_text rows ≡ spelled first_line ++ (text_of n ++ (text_of l ++ text_of d)) = ap (λ (t : List ℕ). spelled first_line ++ t) (flat_map-append spelled n (l ++ d) ∙ ap (λ (t : List ℕ). text_of n ++ t) (flat_map-append spelled l d)) in
    let filled = ap3 (λ (x y z : List ℕ). spelled first_line ++ (x ++ (y ++ z))) n_is l_is d_is in
    sym (parts ∙ filled ∙ regroup (spelled first_line) (spelled (opening_line (codes "NODES"))) (text_of (map node_line rows.nodes)) (spelled closing_line) (spelled (opening_line (codes "LINKS"))) (text_of (map (link_line (names_of_nodes rows)) rows.links)) (spelled (opening_line (codes "DEMANDS"))) (text_of (map (demand_line (names_of_nodes rows)) rows.demands)))

pub text_first_stops : {E : Type 0} (rows : NetRows) (a b : SinkView) (u v : List ℕ) (e : E) → Puts a b u v (failed (Unit {0}) E e) opens_nodes → Puts a b u v (failed (Unit {0}) E e) (canonical_text rows)
text_first_stops {E} rows a b u v e h = subst (λ (l : List ℕ). Puts a b u v (failed (Unit {0}) E e) l) (text_is rows) (first_stops a b u v e opens_nodes (node_lines rows) (from_links rows) h)

pub text_second_stops : {E : Type 0} (rows : NetRows) (a b c : SinkView) (u v w : List ℕ) (e : E) → Puts a b u v (ended (Unit {0}) E tt) opens_nodes → Puts b c v w (failed (Unit {0}) E e) (node_lines rows) → Puts a c u w (failed (Unit {0}) E e) (canonical_text rows)
text_second_stops {E} rows a b c u v w e h k = subst (λ (l : List ℕ). Puts a c u w (failed (Unit {0}) E e) l) (text_is rows) (second_stops a b c u v w e opens_nodes (node_lines rows) (from_links rows) h k)

pub text_put : {E : Type 0} (rows : NetRows) (a b c d : SinkView) (u v w z : List ℕ) (result : Result (Unit {0}) E) → Puts a b u v (ended (Unit {0}) E tt) opens_nodes → Puts b c v w (ended (Unit {0}) E tt) (node_lines rows)
    → Puts c d w z result (from_links rows) → Puts a d u z result (canonical_text rows)
text_put {E} rows a b c d u v w z result h k l = subst (λ (t : List ℕ). Puts a d u z result t) (text_is rows) (three_put a b c d u v w z result opens_nodes (node_lines rows) (from_links rows) h k l)
