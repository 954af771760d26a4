-- The ids of links, one after the other.
use Rattle.std.proofs.Common.{◌≡◌, ℕ, ◌+◌, ◌<◌, ◌≤◌, List, [], ◌∷◌, ◌++◌, length, get_or, map, take, sym, ap, ◌∙◌, arith}
use Rattle.std.proofs.lemmas.List.{take_all, take_more, length-map, get_or-map, map-append}
use Rattle.sndlib_grammar.specs.Rows.{NetRows, NetLink, link_at, no_link, names_of_links}

-- the id of a link among those of all
pub id_at : (rows : NetRows) (i : ℕ) (id : List ℕ) → i < length rows.links → id ≡ (link_at rows i).id → id ≡ get_or (names_of_links rows) i []
id_at rows i id lt is = is ∙ sym (get_or-map (λ (l : NetLink). l.id) rows.links i no_link [] lt)

pub ids_more : {X : Type 0} (f : X → List ℕ) (ids : List X) (rows : NetRows) (i : ℕ) (x : X) → i < length rows.links → map f ids ≡ take i (names_of_links rows) → f x ≡ (link_at rows i).id
    → map f (ids ++ x ∷ []) ≡ take (i + 1) (names_of_links rows)
ids_more f ids rows i x lt h is =
    let names : List (List ℕ) = names_of_links rows in
    let more = take_more names i [] (omega (arith, lt, length-map rows.links (λ (l : NetLink). l.id))) in
    map-append f ids (x ∷ []) ∙ (ap (λ (l : List (List ℕ)). l ++ f x ∷ []) h ∙ (ap (λ (id : List ℕ). take i names ++ id ∷ []) (id_at rows i (f x) lt is) ∙ sym more))

pub ids_all : {X : Type 0} (f : X → List ℕ) (ids : List X) (rows : NetRows) (i : ℕ) → length rows.links ≤ i → map f ids ≡ take i (names_of_links rows) → map f ids ≡ names_of_links rows
ids_all f ids rows i le h = h ∙ take_all i (names_of_links rows) (omega (arith, length-map rows.links (λ (l : NetLink). l.id)))
