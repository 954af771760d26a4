-- Words, put one after the other.
use Rattle.std.proofs.Common.{◌≡◌, ℕ, ◌+◌, ◌<◌, List, [], ◌∷◌, ◌++◌, length, get_or, take, drop, Result, refl, sym, ap, subst, ◌∙◌, append_assoc}
use Rattle.std.specs.Prelude.{map}
use Rattle.std.specs.List.{join_with_byte}
use Rattle.std.proofs.lemmas.List.{append-nil, take-append-drop, take_more}
use Rattle.text_lines.specs.Lines.{Line, spelled}
use Rattle.mcf_base.specs.Sink.{SinkView}
use Rattle.text_lines.specs.Spelling.{behind}
use Rattle.text_lines.specs.Writing.{Puts, ended, failed}
use Rattle.text_lines.proofs.Putting.{puts_then, puts_stop}

pub behind-append : {X : Type 0} (f : X → List ℕ) (xs ys : List X) → behind (map f (xs ++ ys)) ≡ behind (map f xs) ++ behind (map f ys)
behind-append f [] ys = refl
behind-append f (x ∷ xs) ys = ap (λ (l : List ℕ). 32 ∷ (f x ++ l)) (behind-append f xs ys) ∙ ap (λ (l : List ℕ). 32 ∷ l) (sym (append_assoc (f x) (behind (map f xs)) (behind (map f ys))))

pub joined_is : (word : List ℕ) (words : Line) → join_with_byte 32 (word ∷ words) ≡ word ++ behind words
joined_is word [] = sym (append-nil word)
joined_is word (next ∷ words) = ap (λ (l : List ℕ). word ++ (32 ∷ l)) (joined_is next words)

one_longer : {X : Type 0} (f : X → List ℕ) (words : List X) (i : ℕ) (x : X) → i < length words → behind (map f (take i words)) ++ (32 ∷ f (get_or words i x)) ≡ behind (map f (take (i + 1) words))
one_longer f words i x lt =
    let last : behind (map f (get_or words i x ∷ [])) ≡ 32 ∷ f (get_or words i x) = append-nil (32 ∷ f (get_or words i x)) in
    ap (λ (l : List ℕ). behind (map f (take i words)) ++ l) (sym last) ∙ sym (behind-append f (take i words) (get_or words i x ∷ [])) ∙ ap (λ ws. behind (map f ws)) (sym (take_more words i x lt))

pub one_word_on : {X E : Type 0} (f : X → List ℕ) (a b c : SinkView) (u v w : List ℕ) (words : List X) (i : ℕ) (x : X) → i < length words
    → Puts a b u v (ended (Unit {0}) E tt) (behind (map f (take i words))) → Puts b c v w (ended (Unit {0}) E tt) (32 ∷ f (get_or words i x)) → Puts a c u w (ended (Unit {0}) E tt) (behind (map f (take (i + 1) words)))
one_word_on {X} {E} f a b c u v w words i x lt h k =
    let both = puts_then a b c u v w tt (ended (Unit {0}) E tt) (behind (map f (take i words))) (32 ∷ f (get_or words i x)) h k in
    subst (λ (l : List ℕ). Puts a c u w (ended (Unit {0}) E tt) l) (one_longer f words i x lt) both

pub word_stops : {X E : Type 0} (f : X → List ℕ) (a b c : SinkView) (u v w : List ℕ) (e : E) (words : List X) (i : ℕ) (x : X) → i < length words
    → Puts a b u v (ended (Unit {0}) E tt) (behind (map f (take i words))) → Puts b c v w (failed (Unit {0}) E e) (32 ∷ f (get_or words i x)) → Puts a c u w (failed (Unit {0}) E e) (behind (map f words))
word_stops {X} {E} f a b c u v w e words i x lt h k =
    let both = puts_then a b c u v w tt (failed (Unit {0}) E e) (behind (map f (take i words))) (32 ∷ f (get_or words i x)) h k in
    let so_far = subst (λ (l : List ℕ). Puts a c u w (failed (Unit {0}) E e) l) (one_longer f words i x lt) both in
    let all = puts_stop a c u w w e (behind (map f (take (i + 1) words))) (behind (map f (drop (i + 1) words))) so_far in
    let same : behind (map f (take (i + 1) words)) ++ behind (map f (drop (i + 1) words)) ≡ behind (map f words) = sym (behind-append f (take (i + 1) words) (drop (i + 1) words)) ∙ ap (λ ws. behind (map f ws)) (take-append-drop (i + 1) words) in
    subst (λ (l : List ℕ). Puts a c u w (failed (Unit {0}) E e) l) same all

line_is : (word : List ℕ) (words : Line) → (word ++ behind words) ++ 10 ∷ [] ≡ spelled (word ∷ words)
line_is word words = ap (λ (l : List ℕ). l ++ 10 ∷ []) (sym (joined_is word words))

-- a line is its first word, the words behind it and a line feed
pub line_first_stops : {E : Type 0} (a b : SinkView) (u v : List ℕ) (e : E) (word : List ℕ) (words : Line) → Puts a b u v (failed (Unit {0}) E e) word → Puts a b u v (failed (Unit {0}) E e) (spelled (word ∷ words))
line_first_stops {E} a b u v e word words h =
    let more : Puts a b u v (failed (Unit {0}) E e) (word ++ behind words) = puts_stop a b u v v e word (behind words) h in
    subst (λ (l : List ℕ). Puts a b u v (failed (Unit {0}) E e) l) (line_is word words) (puts_stop a b u v v e (word ++ behind words) (10 ∷ []) more)

pub line_words_stop : {E : Type 0} (a b c : SinkView) (u v w : List ℕ) (e : E) (word : List ℕ) (words : Line) → Puts a b u v (ended (Unit {0}) E tt) word → Puts b c v w (failed (Unit {0}) E e) (behind words)
    → Puts a c u w (failed (Unit {0}) E e) (spelled (word ∷ words))
line_words_stop {E} a b c u v w e word words h k =
    subst (λ (l : List ℕ). Puts a c u w (failed (Unit {0}) E e) l) (line_is word words) (puts_stop a c u w w e (word ++ behind words) (10 ∷ []) (puts_then a b c u v w tt (failed (Unit {0}) E e) word (behind words) h k))

pub line_put : {E : Type 0} (a b c d : SinkView) (u v w z : List ℕ) (r : Result (Unit {0}) E) (word : List ℕ) (words : Line) → Puts a b u v (ended (Unit {0}) E tt) word → Puts b c v w (ended (Unit {0}) E tt) (behind words)
    → Puts c d w z r (10 ∷ []) → Puts a d u z r (spelled (word ∷ words))
line_put {E} a b c d u v w z r word words h k l =
    subst (λ (t : List ℕ). Puts a d u z r t) (line_is word words) (puts_then a c d u w z tt r (word ++ behind words) (10 ∷ []) (puts_then a b c u v w tt (ended (Unit {0}) E tt) word (behind words) h k) l)
