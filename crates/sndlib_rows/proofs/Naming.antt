-- Names in a set.
use Rattle.std.proofs.Common.{◌≡◌, ℕ, ◌+◌, ◌<◌, Bool, true, false, List, [], ◌∷◌, ◌++◌, length, get_or, take, drop, refl, ap, sym, ◌∙◌, Bor, Some, None}
use Rattle.std.proofs.lemmas.List.{length-map}
use Rattle.std.specs.Prelude.{map, position, not, nat_lt, if◌then◌else◌, ◌||◌}
use Rattle.std.specs.List.{list_any, prefix_len}
use Rattle.std.specs.Str.{bytes_eq}
use Rattle.std.proofs.lemmas.List.{drop_more, take_more, map-append}
use Rattle.sndlib_rows.specs.declared.kept.Word.{Word as WordSlice}
use Rattle.sndlib_grammar.specs.Grammar.{Word}
use Rattle.sndlib_rows.specs.Views.{word_view, bytes_of}
use Rattle.sndlib_grammar.specs.Faults.{first_repeated, is_among, texts}

abbrev pub no_slice : WordSlice
no_slice = record { text = record { ref_ptr = (0, 0); now = [] }; line = 0 }

pub any-bytes_of : (b : List ℕ) (ks : List (Bor (List ℕ))) → list_any (λ k. bytes_eq b k.now) ks ≡ list_any (bytes_eq b) (bytes_of ks)
any-bytes_of b [] = refl
any-bytes_of b (k ∷ ks) = ap (λ (r : Bool). bytes_eq b k.now || r) (any-bytes_of b ks)

prefix_len-bytes_of : (p : List ℕ → Bool) (ks : List (Bor (List ℕ))) → prefix_len (λ k. p k.now) ks ≡ prefix_len p (bytes_of ks)
prefix_len-bytes_of p [] = refl
prefix_len-bytes_of p (k ∷ ks) = ap (λ (n : ℕ). if p k.now then 1 + n else 0) (prefix_len-bytes_of p ks)

pub position-bytes_of : (b : List ℕ) (ks : List (Bor (List ℕ))) → position (λ k. bytes_eq b k.now) ks ≡ position (bytes_eq b) (bytes_of ks)
position-bytes_of b ks =
    let n = prefix_len (λ (k : Bor (List ℕ)). not (bytes_eq b k.now)) ks in
    ap (λ (m : ℕ). if nat_lt n m then Some n else None) (sym (length-map ks (λ (k : Bor (List ℕ)). k.now)))
    ∙ ap (λ (m : ℕ). if nat_lt m (length (bytes_of ks)) then Some m else None) (prefix_len-bytes_of (λ w. not (bytes_eq b w)) ks)

-- where the next id is new, and where it is not
pub new_name : (known : List (Bor (List ℕ))) (ids : List WordSlice) (i : ℕ) → i < length ids → list_any (λ k. bytes_eq (get_or ids i no_slice).text.now k.now) known ≡ false
    → first_repeated (bytes_of (known ++ (get_or ids i no_slice).text ∷ [])) (map word_view (drop (i + 1) ids)) ≡ first_repeated (bytes_of known) (map word_view (drop i ids))
new_name known ids i h new =
    let w = word_view (get_or ids i no_slice) in
    let ws = map word_view (drop (i + 1) ids) in
    let other : is_among (bytes_of known) w ≡ false = sym (any-bytes_of w.text known) ∙ new in
    let step : first_repeated (bytes_of known) (w ∷ ws) ≡ first_repeated (bytes_of known ++ w.text ∷ []) ws = ap (λ (b : Bool). if b then Some w else first_repeated (bytes_of known ++ w.text ∷ []) ws) other in
    ap (λ (ks : List (List ℕ)). first_repeated ks ws) (map-append (λ (k : Bor (List ℕ)). k.now) known ((get_or ids i no_slice).text ∷ []))
    ∙ sym step ∙ ap (λ (l : List WordSlice). first_repeated (bytes_of known) (map word_view l)) (sym (drop_more ids i no_slice h))

pub old_name : (known : List (Bor (List ℕ))) (ids : List WordSlice) (i : ℕ) → i < length ids → list_any (λ k. bytes_eq (get_or ids i no_slice).text.now k.now) known ≡ true
    → first_repeated (bytes_of known) (map word_view (drop i ids)) ≡ Some (word_view (get_or ids i no_slice))
old_name known ids i h old =
    let w = word_view (get_or ids i no_slice) in
    let ws = map word_view (drop (i + 1) ids) in
    let same : is_among (bytes_of known) w ≡ true = sym (any-bytes_of w.text known) ∙ old in
    ap (λ (l : List WordSlice). first_repeated (bytes_of known) (map word_view l)) (drop_more ids i no_slice h)
    ∙ ap (λ (b : Bool). if b then Some w else first_repeated (bytes_of known ++ w.text ∷ []) ws) same

pub more_names : (known : List (Bor (List ℕ))) (ids : List WordSlice) (i : ℕ) → i < length ids → bytes_of known ≡ texts (map word_view (take i ids))
    → bytes_of (known ++ (get_or ids i no_slice).text ∷ []) ≡ texts (map word_view (take (i + 1) ids))
more_names known ids i h is =
    let id = get_or ids i no_slice in
    map-append (λ (k : Bor (List ℕ)). k.now) known (id.text ∷ [])
    ∙ ap (λ (l : List (List ℕ)). l ++ id.text.now ∷ []) is
    ∙ sym (ap (λ (l : List WordSlice). texts (map word_view l)) (take_more ids i no_slice h)
    ∙ ap texts (map-append word_view (take i ids) (id ∷ [])) ∙ map-append (λ (w : Word). w.text) (map word_view (take i ids)) (word_view id ∷ []))

pub not_true : (b : Bool) → not b ≡ true → b ≡ false
not_true true h = absurd cc
not_true false h = refl

pub not_false : (b : Bool) → not b ≡ false → b ≡ true
not_false true h = refl
not_false false h = absurd cc

pub if_false : {X : Type 0} (b : Bool) (x y : X) → b ≡ false → (if b then x else y) ≡ y
if_false b x y h = rw h refl
