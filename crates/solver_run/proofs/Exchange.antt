-- Sums over weighted rows, exchanged for sums over the entries that name them.
use Rattle.std.proofs.Common.{◌≡◌, inl, inr, ℕ, zero, suc, ◌+◌, ◌*◌, ◌<◌, ◌≤◌, List, [], ◌∷◌, cond, eqb, length, get_or, map, flat_map, refl, sym, ap, ◌∙◌, arith}
use Rattle.std.specs.Prelude.{All, count_by}
use Rattle.std.specs.List.{sum_by}
use Rattle.std.proofs.lemmas.Bool.{cases_eq, eq-eqb, ne_eqb}
use Rattle.std.proofs.lemmas.List.Sums.{sum_by-cons, sum_by-append}
use Rattle.std.proofs.lemmas.List.Elements.{All-head, All-tail}
use Rattle.flow_model.specs.declared.net.Commodity.{Commodity}
use Rattle.flow_model.specs.Walk.{times}
use Rattle.flow_model.specs.Routing.{Row, load_of}
use Rattle.flow_model.proofs.Duality.{no_commodity}
use Rattle.flow_core.specs.Laws.{below}
use Rattle.flow_core.specs.Phase.{amounts_along}
use Rattle.flow_core.proofs.Sums.{point, lift-nil, lift-cons}
use Rattle.solver_run.specs.declared.options.Entry.{Entry}
use Rattle.solver_run.specs.History.{times_named, path_named, routed_in}

abbrev pub no_entry : Entry
no_entry = record { worker = 0; row = 0 }

-- sums over the numbers below n

below-front : (g : ℕ → ℕ) (n : ℕ) → below g (suc n) ≡ g 0 + below (λ k. g (suc k)) n
below-front g zero = omega arith
below-front g (suc n) = let r = below-front g n in omega arith

pub below-same : (f g : ℕ → ℕ) (n : ℕ) → ((k : ℕ) → k < n → f k ≡ g k) → below f n ≡ below g n
below-same f g zero h = refl
below-same f g (suc n) h = let r = below-same f g n (λ k l. h k (omega arith)) in let a = h n (omega arith) in omega arith

pub list-below : {X : Type 0} (f : X → ℕ) (d : X) (xs : List X) → sum_by f xs ≡ below (λ n. f (get_or xs n d)) (length xs)
list-below f d [] = refl
list-below f d (x ∷ xs) =
    let r = list-below f d xs in
    let front = below-front (λ n. f (get_or (x ∷ xs) n d)) (length xs) in
    omega (arith, sum_by-cons f x xs)

-- the entries that name a row

eqb-sym : (a b : ℕ) → eqb a b ≡ eqb b a
eqb-sym a b = elim (cases_eq a b) [ inl e ↦ rw (eq-eqb a b e) (sym (eq-eqb b a (sym e))) | inr n ↦ rw (ne_eqb a b n) (sym (ne_eqb b a (λ e. n (sym e)))) ]

named-one : (g : ℕ → ℕ) (r n : ℕ) → r < n → below (λ i. g i * cond {A = ℕ} (eqb r i) 1 0) n ≡ g r
named-one g r n l = ap (λ (f : ℕ → ℕ). below (λ i. g i * f i) n) (λ p i. cond {A = ℕ} (eqb-sym r i p) 1 0) ∙ point g r n l

named-in : (g : ℕ → ℕ) (n : ℕ) (entries : List Entry) → All (λ (e : Entry). e.row < n) entries → below (λ i. g i * count_by (λ (e : Entry). eqb e.row i) entries) n ≡ sum_by (λ (e : Entry). g e.row) entries
named-in g n [] all = sym (lift-nil g n)
named-in g n (e ∷ es) all =
    let first = named-one g e.row n (All-head (λ (x : Entry). x.row < n) e es all) in
    let rest = named-in g n es (All-tail (λ (x : Entry). x.row < n) e es all) in
    let split : (i : ℕ) → count_by (λ (x : Entry). eqb x.row i) (e ∷ es) ≡ cond {A = ℕ} (eqb e.row i) 1 0 + count_by (λ (x : Entry). eqb x.row i) es = λ i. sum_by-cons (λ (x : Entry). cond {A = ℕ} (eqb x.row i) 1 0) e es in
    ap (λ (f : ℕ → ℕ). below (λ i. g i * f i) n) (λ p i. split i p)
    ∙ (sym (lift-cons g (λ i. cond {A = ℕ} (eqb e.row i) 1 0) (λ i. count_by (λ (x : Entry). eqb x.row i) es) n (g e.row) (sum_by (λ (x : Entry). g x.row) es) (sym first) (sym rest))
    ∙ sym (sum_by-cons (λ (x : Entry). g x.row) e es))

named-all : (g : ℕ → ℕ) (n : ℕ) (history : List (List Entry)) → All (All (λ (e : Entry). e.row < n)) history
    → below (λ i. g i * times_named history i) n ≡ sum_by (λ (es : List Entry). sum_by (λ (e : Entry). g e.row) es) history
named-all g n [] all = sym (lift-nil g n)
named-all g n (es ∷ hs) all =
    let first = named-in g n es (All-head (All (λ (x : Entry). x.row < n)) es hs all) in
    let rest = named-all g n hs (All-tail (All (λ (x : Entry). x.row < n)) es hs all) in
    let split : (i : ℕ) → times_named (es ∷ hs) i ≡ count_by (λ (x : Entry). eqb x.row i) es + times_named hs i = λ i. sum_by-cons (λ (ys : List Entry). count_by (λ (x : Entry). eqb x.row i) ys) es hs in
    ap (λ (f : ℕ → ℕ). below (λ i. g i * f i) n) (λ p i. split i p)
    ∙ (sym (lift-cons g (λ i. count_by (λ (x : Entry). eqb x.row i) es) (times_named hs) n (sum_by (λ (x : Entry). g x.row) es) (sum_by (λ (ys : List Entry). sum_by (λ (x : Entry). g x.row) ys) hs) (sym first) (sym rest))
    ∙ sym (sum_by-cons (λ (ys : List Entry). sum_by (λ (x : Entry). g x.row) ys) es hs))

-- a sum over rows, each as often as it is named, is one over the entries
pub exchange : (h : Row → ℕ) (g : ℕ → ℕ) (d : Row) (rows : List Row) (history : List (List Entry)) → ((n : ℕ) → n < length rows → h (get_or rows n d) ≡ g n * times_named history n)
    → All (All (λ (e : Entry). e.row < length rows)) history → sum_by h rows ≡ sum_by (λ (es : List Entry). sum_by (λ (e : Entry). g e.row) es) history
exchange h g d rows history each all = list-below h d rows ∙ (below-same (λ n. h (get_or rows n d)) (λ n. g n * times_named history n) (length rows) each ∙ named-all g (length rows) history all)

-- sums over lists

pub sum-each : {X : Type 0} (f g : X → ℕ) (xs : List X) → All (λ x. f x ≡ g x) xs → sum_by f xs ≡ sum_by g xs
sum-each f g [] h = refl
sum-each f g (x ∷ xs) h = omega (arith, sum_by-cons f x xs, sum_by-cons g x xs, All-head (λ y. f y ≡ g y) x xs h, sum-each f g xs (All-tail (λ y. f y ≡ g y) x xs h))

pub sum-const : {X : Type 0} (m : ℕ) (xs : List X) → sum_by (λ x. m) xs ≡ length xs * m
sum-const m [] = omega arith
sum-const m (x ∷ xs) = omega (arith, sum_by-cons (λ y. m) x xs, sum-const m xs)

pub sum-some : {X : Type 0} (f : X → ℕ) (d : X) (xs : List X) → 1 ≤ sum_by f xs → (i : ℕ) × (i < length xs) × (1 ≤ f (get_or xs i d))
sum-some f d [] h = absurd (omega arith)
sum-some f d (x ∷ xs) h = elim (cases_eq (f x) 0) [
  | inl e ↦ let r = sum-some f d xs (omega (arith, sum_by-cons f x xs)) in (suc r.0, omega (arith, r.1), r.2)
  | inr n ↦ (0, omega arith, omega arith)
]

-- the load of the amounts along the paths of a phase
pub along : (c j : ℕ) (f : Entry → ℕ) (rows : List Row) (cs : List Commodity) (entries : List Entry) → length entries ≡ length cs
    → ((i : ℕ) → i < length entries → f (get_or entries i no_entry) ≡ (get_or cs i no_commodity).amount * times c (path_named rows (get_or entries i no_entry)))
    → sum_by f entries ≡ load_of (amounts_along j cs (routed_in rows entries)) c
along c j f rows [] [] l h = refl
along c j f rows [] (e ∷ es) l h = absurd (omega arith)
along c j f rows (k ∷ cs) [] l h = absurd (omega arith)
along c j f rows (k ∷ cs) (e ∷ es) l h =
    let rest = along c (j + 1) f rows cs es (omega arith) (λ i b. h (suc i) (omega arith)) in
    let first : f e ≡ k.amount * times c (path_named rows e) = h 0 (omega arith) in
    let whole = sum_by-cons (λ (y : Row). y.weight * times c y.walk) (record { commodity = j; walk = path_named rows e; weight = k.amount }) (amounts_along (j + 1) cs (routed_in rows es)) in
    omega (arith, sum_by-cons f e es)

-- the load of all phases
pub load-phases : (c : ℕ) (cs : List Commodity) (rows : List Row) (history : List (List Entry))
    → sum_by (λ (es : List Entry). load_of (amounts_along 0 cs (routed_in rows es)) c) history ≡ load_of (flat_map (amounts_along 0 cs) (map (routed_in rows) history)) c
load-phases c cs rows [] = refl
load-phases c cs rows (es ∷ hs) =
    let rest = load-phases c cs rows hs in
    omega (
      arith,
      sum_by-cons (λ (ys : List Entry). load_of (amounts_along 0 cs (routed_in rows ys)) c) es hs,
      sum_by-append (λ (r : Row). r.weight * times c r.walk) (amounts_along 0 cs (routed_in rows es)) (flat_map (amounts_along 0 cs) (map (routed_in rows) hs)),
    )
