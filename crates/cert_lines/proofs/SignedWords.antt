-- Words of form 2, which are a sign and the id of a link: looked up, and taken apart.
use Rattle.std.proofs.Common.{◌≡◌, ℕ, suc, ◌+◌, ◌*◌, ◌/◌, ◌%◌, ◌<◌, Bool, true, false, cond, List, [], ◌∷◌, ◌++◌, length, get_or, Option, Some, None, refl, ap, sym, subst, ◌∙◌, arith}
use Rattle.std.specs.Prelude.{position, nat_lt, not, ◌==◌, if◌then◌else◌}
use Rattle.std.specs.List.{flat_map, prefix_len}
use Rattle.std.specs.Option.{option_map}
use Rattle.std.specs.Str.{bytes_eq}
use Rattle.std.proofs.lemmas.List.{length-map, get_or-map}
use Rattle.std.proofs.lemmas.Bool.Decides.{nat_tests}
use Rattle.unit_scale.specs.Modes.{signs}
use Rattle.unit_scale.specs.declared.modes.LinkMode.{LinkMode}
use Rattle.unit_scale.specs.declared.modes.LinkMode.TheVariants.{Directed, Undirected, Bidirected}
use Rattle.unit_scale.specs.declared.modes.Sign.TheVariants.{Along}
use Rattle.unit_scale.specs.Names.{per, cells_of, name_of}
use Rattle.unit_scale.proofs.Parts.{parts_length, part_item}
use Rattle.unit_scale.proofs.CellNumbers.{number_from, place_below, link_below}
use Rattle.cert_lines.specs.Sheet.{sign_mark, signed_words, place_of}
use Rattle.cert_lines.specs.Signs.{marked_cell}

-- ---- the first place at which a word stands

below_next : (n m : ℕ) → nat_lt (1 + n) (suc m) ≡ nat_lt n m
below_next n m = grind (arith, nat_tests)

position_next : {X : Type 0} (p : X → Bool) (x : X) (xs : List X) → p x ≡ false → position p (x ∷ xs) ≡ option_map suc (position p xs)
position_next p x xs e =
    let n = prefix_len (λ y. not (p y)) xs in
    ap (λ (b : Bool). let k = cond (not b) (1 + n) 0 in if nat_lt k (suc (length xs)) then Some k else None) e
    ∙ ap (λ (b : Bool). if b then Some (1 + n) else None) (below_next n (length xs))
    ∙ moved (nat_lt n (length xs)) n
  where
    moved : (b : Bool) (n : ℕ) → (if b then Some (1 + n) else None) ≡ option_map suc (if b then Some n else None)
    moved true n = ap Some (omega arith)
    moved false n = refl

some_below : (m : ℕ) → nat_lt 0 (suc m) ≡ true
some_below m = grind (arith, nat_tests)

position_here : {X : Type 0} (p : X → Bool) (x : X) (xs : List X) → p x ≡ true → position p (x ∷ xs) ≡ Some 0
position_here p x xs e =
    let n = prefix_len (λ y. not (p y)) xs in
    ap (λ (b : Bool). let k = cond (not b) (1 + n) 0 in if nat_lt k (suc (length xs)) then Some k else None) e
    ∙ ap (λ (b : Bool). if b then Some 0 else None) (some_below (length xs))

-- ---- the words of links of one cell, and of two

abbrev one_words : ℕ → List (List ℕ) → List (List ℕ)
one_words m ids = flat_map (λ (id : List ℕ). (m ∷ id) ∷ []) ids

one_mark : (b m : ℕ) (w : List ℕ) (ids : List (List ℕ))
    → position (bytes_eq (b ∷ w)) (one_words m ids) ≡ (if b == m then position (bytes_eq w) ids else None)
one_mark b m w [] = none_yet (b == m)
  where
    none_yet : (t : Bool) → ◌≡◌ {A = Option ℕ} None (if t then None else None)
    none_yet true = refl
    none_yet false = refl
one_mark b m w (id ∷ ids) = by (one_mark b m w ids) (b == m) (bytes_eq w id) refl refl
  where
    by : position (bytes_eq (b ∷ w)) (one_words m ids) ≡ (if b == m then position (bytes_eq w) ids else None)
        → (s t : Bool) → (b == m) ≡ s → bytes_eq w id ≡ t
        → position (bytes_eq (b ∷ w)) ((m ∷ id) ∷ one_words m ids) ≡ (if b == m then position (bytes_eq w) (id ∷ ids) else None)
    by rest true true e f = position_here (bytes_eq (b ∷ w)) (m ∷ id) (one_words m ids) (rw (e, f) refl) ∙ rw (e, position_here (bytes_eq w) id ids f) refl
    by rest true false e f =
        position_next (bytes_eq (b ∷ w)) (m ∷ id) (one_words m ids) (rw (e, f) refl) ∙ ap (option_map suc) rest
        ∙ rw (e, position_next (bytes_eq w) id ids f) refl
    by rest false t e f = position_next (bytes_eq (b ∷ w)) (m ∷ id) (one_words m ids) (rw e refl) ∙ ap (option_map suc) rest ∙ rw e refl

doubled : (o : Option ℕ) → option_map suc (option_map suc (option_map (λ i. 2 * i) o)) ≡ option_map (λ i. 2 * i) (option_map suc o)
doubled None = refl
doubled (Some i) = ap Some (omega arith)

doubled_more : (o : Option ℕ) → option_map suc (option_map suc (option_map (λ i. 2 * i + 1) o)) ≡ option_map (λ i. 2 * i + 1) (option_map suc o)
doubled_more None = refl
doubled_more (Some i) = ap Some (omega arith)

-- of two marks the first that is the byte
abbrev either : (b m n : ℕ) → Option ℕ → Option ℕ
either b m n o = if b == m then option_map (λ i. 2 * i) o else (if b == n then option_map (λ i. 2 * i + 1) o else None)

abbrev two_words : ℕ → ℕ → List (List ℕ) → List (List ℕ)
two_words m n ids = flat_map (λ (id : List ℕ). (m ∷ id) ∷ (n ∷ id) ∷ []) ids

-- both words of a link are others
both_past : (b m n : ℕ) (w id : List ℕ) (ids : List (List ℕ)) → bytes_eq (b ∷ w) (m ∷ id) ≡ false → bytes_eq (b ∷ w) (n ∷ id) ≡ false
    → position (bytes_eq (b ∷ w)) ((m ∷ id) ∷ (n ∷ id) ∷ two_words m n ids) ≡ option_map suc (option_map suc (position (bytes_eq (b ∷ w)) (two_words m n ids)))
both_past b m n w id ids e f =
    position_next (bytes_eq (b ∷ w)) (m ∷ id) ((n ∷ id) ∷ two_words m n ids) e
    ∙ ap (option_map suc) (position_next (bytes_eq (b ∷ w)) (n ∷ id) (two_words m n ids) f)

two_marks : (b m n : ℕ) (w : List ℕ) (ids : List (List ℕ))
    → position (bytes_eq (b ∷ w)) (two_words m n ids) ≡ either b m n (position (bytes_eq w) ids)
two_marks b m n w [] = none_yet (b == m) (b == n)
  where
    none_yet : (s t : Bool) → ◌≡◌ {A = Option ℕ} None (if s then None else (if t then None else None))
    none_yet true t = refl
    none_yet false true = refl
    none_yet false false = refl
two_marks b m n w (id ∷ ids) = by (two_marks b m n w ids) (b == m) (b == n) (bytes_eq w id) refl refl refl
  where
    by : position (bytes_eq (b ∷ w)) (two_words m n ids) ≡ either b m n (position (bytes_eq w) ids)
        → (s t u : Bool) → (b == m) ≡ s → (b == n) ≡ t → bytes_eq w id ≡ u
        → position (bytes_eq (b ∷ w)) ((m ∷ id) ∷ (n ∷ id) ∷ two_words m n ids) ≡ either b m n (position (bytes_eq w) (id ∷ ids))
    by rest true t true e f g = position_here (bytes_eq (b ∷ w)) (m ∷ id) ((n ∷ id) ∷ two_words m n ids) (rw (e, g) refl) ∙ rw (e, position_here (bytes_eq w) id ids g) refl
    by rest true true false e f g = both_past b m n w id ids (rw (e, g) refl) (rw (f, g) refl) ∙ ap (λ o. option_map suc (option_map suc o)) rest ∙ rw (e, position_next (bytes_eq w) id ids g) (doubled (position (bytes_eq w) ids))
    by rest true false false e f g = both_past b m n w id ids (rw (e, g) refl) (rw f refl) ∙ ap (λ o. option_map suc (option_map suc o)) rest ∙ rw (e, position_next (bytes_eq w) id ids g) (doubled (position (bytes_eq w) ids))
    by rest false true true e f g =
        position_next (bytes_eq (b ∷ w)) (m ∷ id) ((n ∷ id) ∷ two_words m n ids) (rw e refl)
        ∙ ap (option_map suc) (position_here (bytes_eq (b ∷ w)) (n ∷ id) (two_words m n ids) (rw (f, g) refl))
        ∙ rw (e, f, position_here (bytes_eq w) id ids g) refl
    by rest false true false e f g = both_past b m n w id ids (rw e refl) (rw (f, g) refl) ∙ ap (λ o. option_map suc (option_map suc o)) rest ∙ rw (e, f, position_next (bytes_eq w) id ids g) (doubled_more (position (bytes_eq w) ids))
    by rest false false u e f g = both_past b m n w id ids (rw e refl) (rw f refl) ∙ ap (λ o. option_map suc (option_map suc o)) rest ∙ rw (e, f) refl

same : (n m : ℕ) → (n == m) ≡ true → n ≡ m
same n m e = grind (arith, nat_tests)

-- the place of a word of form 2: that of the cell of its mark over the link of its id
pub word_found : (mode : LinkMode) (b : ℕ) (w : List ℕ) (ids : List (List ℕ))
    → marked_cell mode b (position (bytes_eq w) ids) ≡ place_of (flat_map (signed_words mode) ids) (b ∷ w)
word_found Directed b w ids = by (b == 43) (b == 45) (b == 61) refl refl refl (position (bytes_eq w) ids) ∙ sym (one_mark b 43 w ids)
  where
    by : (s t u : Bool) → (b == 43) ≡ s → (b == 45) ≡ t → (b == 61) ≡ u → (o : Option ℕ) → marked_cell Directed b o ≡ (if b == 43 then o else None)
    by true t u e f g None = rw e refl
    by true t u e f g (Some i) = rw e (ap Some (omega arith))
    by false true u e f g None = rw (e, f) refl
    by false true u e f g (Some i) = rw (e, f) refl
    by false false true e f g None = rw (e, f, g) refl
    by false false true e f g (Some i) = rw (e, f, g) refl
    by false false false e f g o = rw (e, f, g) refl
word_found Undirected b w ids = by (b == 43) (b == 45) (b == 61) refl refl refl (position (bytes_eq w) ids) ∙ sym (one_mark b 61 w ids)
  where
    by : (s t u : Bool) → (b == 43) ≡ s → (b == 45) ≡ t → (b == 61) ≡ u → (o : Option ℕ) → marked_cell Undirected b o ≡ (if b == 61 then o else None)
    by true t true e f g o = absurd (omega (arith, same b 43 e, same b 61 g))
    by true t false e f g None = rw (e, g) refl
    by true t false e f g (Some i) = rw (e, g) refl
    by false true true e f g o = absurd (omega (arith, same b 45 f, same b 61 g))
    by false true false e f g None = rw (e, f, g) refl
    by false true false e f g (Some i) = rw (e, f, g) refl
    by false false true e f g None = rw (e, f, g) refl
    by false false true e f g (Some i) = rw (e, f, g) (ap Some (omega arith))
    by false false false e f g o = rw (e, f, g) refl
word_found Bidirected b w ids = by (b == 43) (b == 45) (b == 61) refl refl refl (position (bytes_eq w) ids) ∙ sym (two_marks b 43 45 w ids)
  where
    by : (s t u : Bool) → (b == 43) ≡ s → (b == 45) ≡ t → (b == 61) ≡ u → (o : Option ℕ) → marked_cell Bidirected b o ≡ either b 43 45 o
    by true t u e f g None = rw e refl
    by true t u e f g (Some i) = rw e (ap Some (omega arith))
    by false true u e f g None = rw (e, f) refl
    by false true u e f g (Some i) = rw (e, f) refl
    by false false true e f g None = rw (e, f, g) refl
    by false false true e f g (Some i) = rw (e, f, g) refl
    by false false false e f g o = rw (e, f, g) refl

-- no cell has the empty word
pub empty_is_none : (mode : LinkMode) (ids : List (List ℕ)) → None ≡ place_of (flat_map (signed_words mode) ids) []
empty_is_none Directed [] = refl
empty_is_none Directed (id ∷ ids) = ap (option_map suc) (empty_is_none Directed ids) ∙ sym (position_next (bytes_eq []) (43 ∷ id) (flat_map (signed_words Directed) ids) refl)
empty_is_none Undirected [] = refl
empty_is_none Undirected (id ∷ ids) = ap (option_map suc) (empty_is_none Undirected ids) ∙ sym (position_next (bytes_eq []) (61 ∷ id) (flat_map (signed_words Undirected) ids) refl)
empty_is_none Bidirected [] = refl
empty_is_none Bidirected (id ∷ ids) =
    ap (option_map suc) (ap (option_map suc) (empty_is_none Bidirected ids) ∙ sym (position_next (bytes_eq []) (45 ∷ id) (flat_map (signed_words Bidirected) ids) refl))
    ∙ sym (position_next (bytes_eq []) (43 ∷ id) ((45 ∷ id) ∷ flat_map (signed_words Bidirected) ids) refl)

-- ---- the word of a cell

-- a link has as many words as it has cells
words_count : (mode : LinkMode) (id : List ℕ) → length (signed_words mode id) ≡ per mode
words_count mode id = length-map (signs mode) (λ sign. sign_mark sign ++ id)

pub words_counted : (mode : LinkMode) (ids : List (List ℕ)) → length (flat_map (signed_words mode) ids) ≡ cells_of mode (length ids)
words_counted mode ids = parts_length (signed_words mode) (per mode) (words_count mode) ids

pub link_of_word : (mode : LinkMode) (ids : List (List ℕ)) (c : ℕ) → c < length (flat_map (signed_words mode) ids) → (name_of mode c).link < length ids
link_of_word mode ids c lt = link_below mode (length ids) c (subst (λ n. c < n) (words_counted mode ids) lt)

pub word_at : (mode : LinkMode) (ids : List (List ℕ)) (c : ℕ) → c < length (flat_map (signed_words mode) ids)
    → get_or (flat_map (signed_words mode) ids) c [] ≡ sign_mark (name_of mode c).sign ++ get_or ids (name_of mode c).link []
word_at mode ids c lt =
    let id = get_or ids (c / per mode) [] in
    ap (λ k. get_or (flat_map (signed_words mode) ids) k []) (sym (number_from mode c))
    ∙ part_item (signed_words mode) (per mode) (words_count mode) ids (c / per mode) (c % per mode) [] [] (link_of_word mode ids c lt) (place_below mode c)
    ∙ get_or-map (λ sign. sign_mark sign ++ id) (signs mode) (c % per mode) Along [] (place_below mode c)
