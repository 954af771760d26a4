-- Lines and rows, put one after the other.
use Rattle.std.proofs.Common.{◌≡◌, ℕ, ◌+◌, ◌<◌, List, [], ◌∷◌, ◌++◌, length, get_or, take, drop, Result, refl, sym, ap, subst, ◌∙◌, append_assoc}
use Rattle.std.specs.Prelude.{map}
use Rattle.std.proofs.lemmas.List.{append-nil, take-append-drop, take_more}
use Rattle.std.proofs.lemmas.List.Concat.{flat_map-cons}
use Rattle.text_lines.specs.Lines.{Line, spelled, text_of}
use Rattle.text_lines.specs.Spelling.{behind}
use Rattle.mcf_base.specs.Sink.{SinkView}
use Rattle.text_lines.specs.Writing.{Puts, ended, failed}
use Rattle.text_lines.proofs.Putting.{puts_then, puts_stop}

pub text_of-append : {X : Type 0} (f : X → Line) (xs ys : List X) → text_of (map f (xs ++ ys)) ≡ text_of (map f xs) ++ text_of (map f ys)
text_of-append f [] ys = refl
text_of-append f (x ∷ xs) ys =
    flat_map-cons spelled (f x) (map f (xs ++ ys)) ∙ ap (λ (l : List ℕ). spelled (f x) ++ l) (text_of-append f xs ys)
    ∙ sym (append_assoc (spelled (f x)) (text_of (map f xs)) (text_of (map f ys))) ∙ ap (λ (l : List ℕ). l ++ text_of (map f ys)) (sym (flat_map-cons spelled (f x) (map f xs)))

one_line : (l : Line) → text_of (l ∷ []) ≡ spelled l
one_line l = flat_map-cons spelled l [] ∙ append-nil (spelled l)

one_longer : {X : Type 0} (f : X → Line) (rows : List X) (i : ℕ) (x : X) → i < length rows → text_of (map f (take i rows)) ++ spelled (f (get_or rows i x)) ≡ text_of (map f (take (i + 1) rows))
one_longer f rows i x lt =
    ap (λ (l : List ℕ). text_of (map f (take i rows)) ++ l) (sym (one_line (f (get_or rows i x)))) ∙ sym (text_of-append f (take i rows) (get_or rows i x ∷ [])) ∙ ap (λ rs. text_of (map f rs)) (sym (take_more rows i x lt))

pub one_line_on : {X E : Type 0} (f : X → Line) (a b c : SinkView) (u v w : List ℕ) (rows : List X) (i : ℕ) (x : X) → i < length rows
    → Puts a b u v (ended (Unit {0}) E tt) (text_of (map f (take i rows))) → Puts b c v w (ended (Unit {0}) E tt) (spelled (f (get_or rows i x))) → Puts a c u w (ended (Unit {0}) E tt) (text_of (map f (take (i + 1) rows)))
one_line_on {X} {E} f a b c u v w rows i x lt h k =
    let both = puts_then a b c u v w tt (ended (Unit {0}) E tt) (text_of (map f (take i rows))) (spelled (f (get_or rows i x))) h k in
    subst (λ (l : List ℕ). Puts a c u w (ended (Unit {0}) E tt) l) (one_longer f rows i x lt) both

pub line_stops : {X E : Type 0} (f : X → Line) (a b c : SinkView) (u v w : List ℕ) (e : E) (rows : List X) (i : ℕ) (x : X) → i < length rows
    → Puts a b u v (ended (Unit {0}) E tt) (text_of (map f (take i rows))) → Puts b c v w (failed (Unit {0}) E e) (spelled (f (get_or rows i x))) → Puts a c u w (failed (Unit {0}) E e) (text_of (map f rows))
line_stops {X} {E} f a b c u v w e rows i x lt h k =
    let both = puts_then a b c u v w tt (failed (Unit {0}) E e) (text_of (map f (take i rows))) (spelled (f (get_or rows i x))) h k in
    let so_far = subst (λ (l : List ℕ). Puts a c u w (failed (Unit {0}) E e) l) (one_longer f rows i x lt) both in
    let all = puts_stop a c u w w e (text_of (map f (take (i + 1) rows))) (text_of (map f (drop (i + 1) rows))) so_far in
    let same : text_of (map f (take (i + 1) rows)) ++ text_of (map f (drop (i + 1) rows)) ≡ text_of (map f rows) = sym (text_of-append f (take (i + 1) rows) (drop (i + 1) rows)) ∙ ap (λ rs. text_of (map f rs)) (take-append-drop (i + 1) rows) in
    subst (λ (l : List ℕ). Puts a c u w (failed (Unit {0}) E e) l) same all

-- a row is its front, what is behind it, and a line feed
behind_both : (xs ys : Line) → behind (xs ++ ys) ≡ behind xs ++ behind ys
behind_both [] ys = refl
behind_both (x ∷ xs) ys = ap (λ (l : List ℕ). 32 ∷ (x ++ l)) (behind_both xs ys) ∙ ap (λ (l : List ℕ). 32 ∷ l) (sym (append_assoc x (behind xs) (behind ys)))

joined_is : (word : List ℕ) (words : Line) → spelled (word ∷ words) ≡ (word ++ behind words) ++ 10 ∷ []
joined_is word [] = ap (λ (l : List ℕ). l ++ 10 ∷ []) (sym (append-nil word))
joined_is word (next ∷ words) = append_assoc word (32 ∷ _) (10 ∷ []) ∙ ap (λ (l : List ℕ). word ++ (32 ∷ l)) (joined_is next words) ∙ sym (append_assoc word (32 ∷ (next ++ behind words)) (10 ∷ []))

row_is : (first : List ℕ) (front more : Line) → ((first ++ behind front) ++ behind more) ++ 10 ∷ [] ≡ spelled (first ∷ (front ++ more))
row_is first front more =
    ap (λ (l : List ℕ). l ++ 10 ∷ []) (append_assoc first (behind front) (behind more) ∙ ap (λ (l : List ℕ). first ++ l) (sym (behind_both front more))) ∙ sym (joined_is first (front ++ more))

pub row_front_stops : {E : Type 0} (a b : SinkView) (u v : List ℕ) (e : E) (first : List ℕ) (front more : Line) → Puts a b u v (failed (Unit {0}) E e) (first ++ behind front) → Puts a b u v (failed (Unit {0}) E e) (spelled (first ∷ (front ++ more)))
row_front_stops {E} a b u v e first front more h =
    let inner : Puts a b u v (failed (Unit {0}) E e) ((first ++ behind front) ++ behind more) = puts_stop a b u v v e (first ++ behind front) (behind more) h in
    subst (λ (l : List ℕ). Puts a b u v (failed (Unit {0}) E e) l) (row_is first front more) (puts_stop a b u v v e ((first ++ behind front) ++ behind more) (10 ∷ []) inner)

pub row_more_stops : {E : Type 0} (a b c : SinkView) (u v w : List ℕ) (e : E) (first : List ℕ) (front more : Line) → Puts a b u v (ended (Unit {0}) E tt) (first ++ behind front) → Puts b c v w (failed (Unit {0}) E e) (behind more)
    → Puts a c u w (failed (Unit {0}) E e) (spelled (first ∷ (front ++ more)))
row_more_stops {E} a b c u v w e first front more h k =
    let inner : Puts a c u w (failed (Unit {0}) E e) ((first ++ behind front) ++ behind more) = puts_then a b c u v w tt (failed (Unit {0}) E e) (first ++ behind front) (behind more) h k in
    subst (λ (l : List ℕ). Puts a c u w (failed (Unit {0}) E e) l) (row_is first front more) (puts_stop a c u w w e ((first ++ behind front) ++ behind more) (10 ∷ []) inner)

pub row_put : {E : Type 0} (a b c d : SinkView) (u v w z : List ℕ) (r : Result (Unit {0}) E) (first : List ℕ) (front more : Line) → Puts a b u v (ended (Unit {0}) E tt) (first ++ behind front) → Puts b c v w (ended (Unit {0}) E tt) (behind more)
    → Puts c d w z r (10 ∷ []) → Puts a d u z r (spelled (first ∷ (front ++ more)))
row_put {E} a b c d u v w z r first front more h k l =
    subst (λ (t : List ℕ). Puts a d u z r t) (row_is first front more) (puts_then a c d u w z tt r ((first ++ behind front) ++ behind more) (10 ∷ []) (puts_then a b c u v w tt (ended (Unit {0}) E tt) (first ++ behind front) (behind more) h k) l)

-- a word that is put in two parts, behind a space
pub joined_stops : {E : Type 0} (a b : SinkView) (u v : List ℕ) (e : E) (sign id word : List ℕ) → sign ++ id ≡ word
    → Puts a b u v (failed (Unit {0}) E e) (32 ∷ sign) → Puts a b u v (failed (Unit {0}) E e) (32 ∷ word)
joined_stops {E} a b u v e sign id word same h =
    subst (λ (l : List ℕ). Puts a b u v (failed (Unit {0}) E e) (32 ∷ l)) same (puts_stop a b u v v e (32 ∷ sign) id h)

pub joined_put : {E : Type 0} (a b c : SinkView) (u v w : List ℕ) (r : Result (Unit {0}) E) (sign id word : List ℕ) → sign ++ id ≡ word
    → Puts a b u v (ended (Unit {0}) E tt) (32 ∷ sign) → Puts b c v w r id → Puts a c u w r (32 ∷ word)
joined_put {E} a b c u v w r sign id word same h k =
    subst (λ (l : List ℕ). Puts a c u w r (32 ∷ l)) same (puts_then a b c u v w tt r (32 ∷ sign) id h k)

-- one word behind a space
pub word_alone : {E : Type 0} (a b : SinkView) (u v : List ℕ) (r : Result (Unit {0}) E) (word : List ℕ) → Puts a b u v r (32 ∷ word) → Puts a b u v r (behind (word ∷ []))
word_alone a b u v r word h = subst (λ (l : List ℕ). Puts a b u v r l) (sym (append-nil (32 ∷ word))) h
