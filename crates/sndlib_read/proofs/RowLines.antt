-- Ids of rows by their places.
use Rattle.std.proofs.Common.{◌≡◌, ℕ, ◌<◌, ◌≤◌, List, [], ◌∷◌, length, get_or, refl, ap, sym, ◌∙◌, Option, Some, None}
use Rattle.std.specs.Prelude.{map, slice_get}
use Rattle.std.specs.Option.{option_map}
use Rattle.std.proofs.lemmas.Option.{slice_get-map, slice_get-get_or, slice_get_past}
use Rattle.sndlib_grammar.specs.Grammar.{Word}
use Rattle.sndlib_grammar.specs.Faults.{line_of}

at_row : {Y X : Type 0} (id : X → Word) (view : Y → X) (xs : List Y) (i : ℕ) → slice_get (map id (map view xs)) i ≡ option_map id (option_map view (slice_get xs i))
at_row id view xs i = slice_get-map id (map view xs) i ∙ ap (option_map id) (slice_get-map view xs i)

pub row_line : {Y X : Type 0} (id : X → Word) (view : Y → X) (xs : List Y) (i : ℕ) (d : Y) → i < length xs → Some ((id (view (get_or xs i d))).line) ≡ line_of (slice_get (map id (map view xs)) i)
row_line {Y} id view xs i d h = sym (ap line_of (at_row id view xs i) ∙ ap (λ (o : Option Y). line_of (option_map id (option_map view o))) (slice_get-get_or xs i d h))

pub no_row_line : {Y X : Type 0} (id : X → Word) (view : Y → X) (xs : List Y) (i : ℕ) → length xs ≤ i → None ≡ line_of (slice_get (map id (map view xs)) i)
no_row_line {Y} id view xs i h = sym (ap line_of (at_row id view xs i) ∙ ap (λ (o : Option Y). line_of (option_map id (option_map view o))) (slice_get_past xs i h))

-- two ways to the same list
pub map-swap : {Y X A B : Type 0} (f : A → B) (g : Y → A) (h : X → B) (k : Y → X) → ((y : Y) → f (g y) ≡ h (k y)) → (ys : List Y) → map f (map g ys) ≡ map h (map k ys)
map-swap f g h k e [] = refl
map-swap f g h k e (y ∷ ys) = ap (λ b. b ∷ map f (map g ys)) (e y) ∙ ap (λ bs. h (k y) ∷ bs) (map-swap f g h k e ys)
