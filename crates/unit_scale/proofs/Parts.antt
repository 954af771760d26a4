-- Lists made of parts of one length.
use Rattle.std.proofs.Common.{◌≡◌, ℕ, zero, suc, ◌+◌, ◌*◌, ◌<◌, List, [], ◌∷◌, ◌++◌, length, length-append, get_or, get_or-append-add, refl, ap, ◌∙◌, arith}
use Rattle.std.specs.List.{flat_map, slice_get}
use Rattle.std.proofs.Math.Nat.{mul-suc}
use Rattle.std.proofs.Math.ListN.{get_or-append}

-- n more, and n times as many
one_part : (n k : ℕ) → n * suc k ≡ n + n * k
one_part n k = mul-suc n k ∙ omega arith

-- where every part has n items, the list has n for each part
pub parts_length : {X Y : Type 0} (f : X → List Y) (n : ℕ) → ((x : X) → length (f x) ≡ n) → (xs : List X)
    → length (flat_map f xs) ≡ n * length xs
parts_length f n each [] = omega arith
parts_length f n each (x ∷ xs) =
    length-append (f x) (flat_map f xs) ∙ omega (arith, each x, parts_length f n each xs, one_part n (length xs))

get_in_front : {Y : Type 0} (xs ys : List Y) (j : ℕ) → j < length xs → slice_get (xs ++ ys) j ≡ slice_get xs j
get_in_front [] ys j h = absurd (omega arith)
get_in_front (x ∷ xs) ys zero h = refl
get_in_front (x ∷ xs) ys (suc j) h = get_in_front xs ys j (omega arith)

get_behind : {Y : Type 0} (xs ys : List Y) (j : ℕ) → slice_get (xs ++ ys) (length xs + j) ≡ slice_get ys j
get_behind [] ys j = ap (slice_get ys) (omega arith)
get_behind (x ∷ xs) ys j =
    let next : length (x ∷ xs) + j ≡ suc (length xs + j) = omega arith in
    ap (slice_get (x ∷ (xs ++ ys))) next ∙ get_behind xs ys j

-- where every part has n items, item j of part i is item n * i + j of the list
pub part_at : {X Y : Type 0} (f : X → List Y) (n : ℕ) → ((x : X) → length (f x) ≡ n) → (xs : List X) (i j : ℕ) (d : X) → i < length xs → j < n
    → slice_get (flat_map f xs) (n * i + j) ≡ slice_get (f (get_or xs i d)) j
part_at f n each [] i j d h l = absurd (omega arith)
part_at f n each (x ∷ xs) zero j d h l =
    let here : n * 0 + j ≡ j = omega arith in
    ap (slice_get (f x ++ flat_map f xs)) here ∙ get_in_front (f x) (flat_map f xs) j (omega (arith, l, each x))
part_at f n each (x ∷ xs) (suc i) j d h l =
    let next : n * suc i + j ≡ length (f x) + (n * i + j) = omega (arith, one_part n i, each x) in
    ap (slice_get (f x ++ flat_map f xs)) next ∙ get_behind (f x) (flat_map f xs) (n * i + j) ∙ part_at f n each xs i j d (omega arith) l

-- the same with defaults for what is past the end
pub part_item : {X Y : Type 0} (f : X → List Y) (n : ℕ) → ((x : X) → length (f x) ≡ n) → (xs : List X) (i j : ℕ) (d : X) (e : Y) → i < length xs → j < n
    → get_or (flat_map f xs) (n * i + j) e ≡ get_or (f (get_or xs i d)) j e
part_item f n each [] i j d e h l = absurd (omega arith)
part_item f n each (x ∷ xs) zero j d e h l =
    let here : n * 0 + j ≡ j = omega arith in
    ap (λ k. get_or (f x ++ flat_map f xs) k e) here ∙ get_or-append (f x) (flat_map f xs) e j (omega (arith, l, each x))
part_item f n each (x ∷ xs) (suc i) j d e h l =
    let next : n * suc i + j ≡ length (f x) + (n * i + j) = omega (arith, one_part n i, each x) in
    ap (λ k. get_or (f x ++ flat_map f xs) k e) next ∙ get_or-append-add (f x) (flat_map f xs) (n * i + j) e ∙ part_item f n each xs i j d e (omega arith) l
