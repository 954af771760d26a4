-- Turns have one tally.
use Rattle.std.proofs.Common.{◌≡◌, ℕ, suc, ◌<◌, true, false, List, [], ◌∷◌, length, get_or, refl, sym, ap, ◌∙◌, arith, inl, inr}
use Rattle.std.specs.Prelude.{All, AllPairs, IsTrue, ◌||◌, ◌&&◌, ◌==◌, nat_lt}
use Rattle.std.specs.List.{list_any}
use Rattle.std.proofs.lemmas.Bool.{both_ways, or_cases}
use Rattle.std.proofs.lemmas.List.Elements.{All-head, All-tail}
use Rattle.flow_model.specs.Routing.{Row}
use Rattle.flow_paths.specs.RowOrder.{row_lt, list_lt}
use Rattle.flow_paths.proofs.RowOrder.{rows_chain}
use Rattle.route_tally.specs.Tally.{same_path, routed_along, IsTally}
use Rattle.route_tally.proofs.SamePaths.{same_parts, same_from, same_flip, along_same, any_same}
use Rattle.route_tally.proofs.TurnSums.{row_same}

-- a row like it is among them
member : (rows : List Row) (r : Row) → list_any (same_path r) rows ≡ true → (i : ℕ) × (i < length rows) × (same_path r (get_or rows i r) ≡ true)
member [] r h = absurd (cc)
member (x ∷ rows) r h = elim (or_cases (same_path r x) (list_any (same_path r) rows) h) as (λ _. (i : ℕ) × (i < length (x ∷ rows)) × (same_path r (get_or (x ∷ rows) i r) ≡ true)) [
  | inl here ↦ (0, omega arith, here)
  | inr later ↦ let p = member rows r later in let l = p.1 in (suc p.0, omega (arith, l), p.2)
]

-- the order goes by commodity and path alone
lt_same : (a b c : Row) → b.commodity ≡ c.commodity → b.walk ≡ c.walk → row_lt a b ≡ row_lt a c
lt_same a b c p q = ap (λ (k : ℕ). nat_lt a.commodity k || ((a.commodity == k) && list_lt a.walk b.walk)) p ∙ ap (λ (w : List ℕ). nat_lt a.commodity c.commodity || ((a.commodity == c.commodity) && list_lt a.walk w)) q

-- the first comes before a row that is like a later one
before_later : (y : Row) (ys : List Row) (x : Row) → AllPairs (λ a b. IsTrue (row_lt a b)) (y ∷ ys) → list_any (same_path x) ys ≡ true → row_lt y x ≡ true
before_later y ys x up any =
    let m = member ys x any in
    let l = m.1 in
    let lt : row_lt y (get_or ys m.0 x) ≡ true = up 0 (suc m.0) x (omega arith) (omega (arith, l)) in
    let p = same_parts x (get_or ys m.0 x) m.2 in
    lt_same y x (get_or ys m.0 x) p.0 p.1 ∙ lt

-- so the first rows are alike
first_alike : (x y : Row) (xs ys : List Row) → AllPairs (λ a b. IsTrue (row_lt a b)) (x ∷ xs) → AllPairs (λ a b. IsTrue (row_lt a b)) (y ∷ ys) → list_any (same_path x) (y ∷ ys) ≡ true → list_any (same_path y) (x ∷ xs) ≡ true → same_path x y ≡ true
first_alike x y xs ys up up' hx hy = elim (or_cases (same_path x y) (list_any (same_path x) ys) hx) as (λ _. same_path x y ≡ true) [
  | inl here ↦ here
  | inr later ↦ elim (or_cases (same_path y x) (list_any (same_path y) xs) hy) as (λ _. same_path x y ≡ true) [
    | inl here ↦ same_flip y x here
    | inr after ↦ absurd (both_ways (row_lt x x) (row_same x x (same_from x x refl refl)) (rows_chain x y x (before_later x xs y up after) (before_later y ys x up' later)))
  ]
]

-- a later row is like a later one
later_alike : (x y : Row) (xs ys : List Row) → AllPairs (λ a b. IsTrue (row_lt a b)) (x ∷ xs) → same_path x y ≡ true → (i : ℕ) (d : Row) → i < length xs → list_any (same_path (get_or xs i d)) (y ∷ ys) ≡ true → list_any (same_path (get_or xs i d)) ys ≡ true
later_alike x y xs ys up like i d l h =
    let r = get_or xs i d in
    elim (or_cases (same_path r y) (list_any (same_path r) ys) h) as (λ _. list_any (same_path r) ys ≡ true) [
      | inl here ↦
          let p = same_parts x y like in
          let q = same_parts r y here in
          let lt : row_lt x r ≡ true = up 0 (suc i) d (omega arith) (omega (arith, l)) in
          absurd (both_ways (row_lt x r) (row_same x r (same_from x r (p.0 ∙ sym q.0) (p.1 ∙ sym q.1))) lt)
      | inr later ↦ later
    ]

row_is : (a b : Row) → a.commodity ≡ b.commodity → a.walk ≡ b.walk → a.weight ≡ b.weight → a ≡ b
row_is a b p q r =
    let f : ℕ → List ℕ → ℕ → Row = λ k w n. record { commodity = k; walk = w; weight = n } in
    ap (λ (k : ℕ). f k a.walk a.weight) p ∙ ap (λ (w : List ℕ). f b.commodity w a.weight) q ∙ ap (λ (n : ℕ). f b.commodity b.walk n) r

agree : (turns xs ys : List Row) → AllPairs (λ a b. IsTrue (row_lt a b)) xs → AllPairs (λ a b. IsTrue (row_lt a b)) ys
    → ((i : ℕ) (d : Row) → i < length xs → list_any (same_path (get_or xs i d)) ys ≡ true) → ((i : ℕ) (d : Row) → i < length ys → list_any (same_path (get_or ys i d)) xs ≡ true)
    → All (λ r. r.weight ≡ routed_along turns r) xs → All (λ r. r.weight ≡ routed_along turns r) ys → xs ≡ ys
agree turns [] [] up up' hx hy wx wy = refl
agree turns [] (y ∷ ys) up up' hx hy wx wy = let h : false ≡ true = hy 0 y (omega arith) in absurd (cc)
agree turns (x ∷ xs) [] up up' hx hy wx wy = let h : false ≡ true = hx 0 x (omega arith) in absurd (cc)
agree turns (x ∷ xs) (y ∷ ys) up up' hx hy wx wy =
    let like : same_path x y ≡ true = first_alike x y xs ys up up' (hx 0 x (omega arith)) (hy 0 y (omega arith)) in
    let p = same_parts x y like in
    let wx0 : x.weight ≡ routed_along turns x = All-head (λ (r : Row). r.weight ≡ routed_along turns r) x xs wx in
    let wy0 : y.weight ≡ routed_along turns y = All-head (λ (r : Row). r.weight ≡ routed_along turns r) y ys wy in
    let first : x ≡ y = row_is x y p.0 p.1 (wx0 ∙ along_same turns x y p.0 p.1 ∙ sym wy0) in
    let rest : xs ≡ ys = agree turns xs ys
    (λ i j d below l. up (suc i) (suc j) d (omega arith) (omega arith))
    (λ i j d below l. up' (suc i) (suc j) d (omega arith) (omega arith))
    (λ i d l. later_alike x y xs ys up like i d l (hx (suc i) d (omega arith)))
    (λ i d l. later_alike y x ys xs up' (same_flip x y like) i d l (hy (suc i) d (omega arith)))
    (All-tail (λ (r : Row). r.weight ≡ routed_along turns r) x xs wx)
    (All-tail (λ (r : Row). r.weight ≡ routed_along turns r) y ys wy) in
    ap (λ (r : Row). r ∷ xs) first ∙ ap (λ (t : List Row). y ∷ t) rest

-- a row that some turn is like is like each row that this turn is like
across : (turns rows others : List Row) → IsTally turns rows → IsTally turns others → (i : ℕ) (d : Row) → i < length rows → list_any (same_path (get_or rows i d)) others ≡ true
across turns rows others is is' i d l =
    let r = get_or rows i d in
    let m = member turns r (is.no_other i d l) in
    let t = get_or turns m.0 r in
    let p = same_parts r t m.2 in
    any_same others r t p.0 p.1 ∙ is'.each m.0 r m.1

pub unique : (turns rows others : List Row) → IsTally turns rows → IsTally turns others → rows ≡ others
unique turns rows others is is' = agree turns rows others is.ascending is'.ascending (across turns rows others is is') (across turns others rows is' is) is.weights is'.weights
