-- What leaves the cuts round nodes, and the fronts of nodes by rank, cell by cell.
use Rattle.std.proofs.Common.{◌≡◌, ℕ, ◌+◌, ◌*◌, ◌<◌, ◌≤◌, Bool, true, false, cond, eqb, ltb, leb, min, max, List, [], ◌∷◌, ◌++◌, length, get_or, map, take, inl, inr, refl, sym, ap, ◌∙◌, arith}
use Rattle.std.specs.Prelude.{◌&&◌, ◌||◌, not, All}
use Rattle.std.specs.List.{filter, sum_by}
use Rattle.std.proofs.lemmas.List.{get_or_append_left, get_or_push}
use Rattle.std.proofs.lemmas.Bool.{cases_eq, cases_order, eq-eqb, le-leb, le-ltb, lt-leb, lt-ltb, ne_eqb}
use Rattle.std.proofs.lemmas.Bool.Decides.{nat_tests}
use Rattle.std.proofs.lemmas.List.Elements.{All-weaker}
use Rattle.std.proofs.lemmas.List.Sums.{sum_by-cons, sum_by-le, sum_by-take-le}
use Rattle.flow_model.specs.declared.net.Cell.{Cell}
use Rattle.flow_model.specs.declared.net.Commodity.{Commodity}
use Rattle.flow_model.specs.Network.{Network, IsCell, IsNetwork}
use Rattle.mcf_limits.specs.declared.TheConstants.{MAX_CELLS, MAX_UNITS}
use Rattle.cut_bound.specs.declared.sums.Arc.{Arc}
use Rattle.cut_bound.specs.declared.sums.Span.{Span}
use Rattle.cut_bound.specs.Cuts.{leaves}
use Rattle.cut_bound.specs.Sums.{arc_in, as_cell, ending, leaving, node_part, node_side, rank_front, span_in, starting, total_capacity, AreSteps}
use Rattle.cut_bound.proofs.Adding.{sum-same}

-- what is left out counts as 0
pub sum-test : {X : Type 0} (f : X → ℕ) (p : X → Bool) (xs : List X) → sum_by f (filter p xs) ≡ sum_by (λ x. cond (p x) (f x) 0) xs
sum-test f p [] = refl
sum-test f p (x ∷ xs) = step f p x xs (p x) (sum-test f p xs) ∙ sym (sum_by-cons (λ y. cond (p y) (f y) 0) x xs)
  where
    step : {X : Type 0} (f : X → ℕ) (p : X → Bool) (x : X) (xs : List X) (b : Bool) → sum_by f (filter p xs) ≡ sum_by (λ y. cond (p y) (f y) 0) xs
        → sum_by f (cond b (x ∷ filter p xs) (filter p xs)) ≡ cond b (f x) 0 + sum_by (λ y. cond (p y) (f y) 0) xs
    step f p x xs true rest = omega (arith, sum_by-cons f x (filter p xs), rest)
    step f p x xs false rest = omega (arith, rest)

-- two sums that are equal at each item
sum-pairs : {X : Type 0} (f g h k : X → ℕ) (xs : List X) → ((x : X) → f x + g x ≡ h x + k x) → sum_by f xs + sum_by g xs ≡ sum_by h xs + sum_by k xs
sum-pairs f g h k [] e = refl
sum-pairs f g h k (x ∷ xs) e =
    let here : f x + g x ≡ h x + k x = e x in
    let rest : sum_by f xs + sum_by g xs ≡ sum_by h xs + sum_by k xs = sum-pairs f g h k xs e in
    omega (arith, sum_by-cons f x xs, sum_by-cons g x xs, sum_by-cons h x xs, sum_by-cons k x xs)

sum-none : {X : Type 0} (f : X → ℕ) (xs : List X) → ((x : X) → f x ≡ 0) → sum_by f xs ≡ 0
sum-none f [] e = refl
sum-none f (x ∷ xs) e = omega (arith, sum_by-cons f x xs, e x, sum-none f xs e)

-- sums of parts of capacities are at most the sum of all
sum-below : (f : Cell → ℕ) (cells : List Cell) → ((c : Cell) → f c ≤ c.cap) → sum_by f cells ≤ total_capacity cells
sum-below f [] le = omega arith
sum-below f (c ∷ cs) le =
    let here = le c in
    let rest = sum-below f cs le in
    omega (arith, sum_by-cons f c cs, sum_by-cons (λ (d : Cell). d.cap) c cs)

part-below : (f : Cell → ℕ) (cells : List Cell) (i : ℕ) → ((c : Cell) → f c ≤ c.cap) → sum_by f (take i cells) ≤ total_capacity cells
part-below f cells i le =
    let whole = sum-below f cells le in
    let part = sum_by-take-le f cells i in
    omega arith

-- the capacities of a network's cells, and the amounts of its commodities, together
pub cells-total : (net : Network) → IsNetwork net → total_capacity net.cells ≤ MAX_CELLS * MAX_UNITS
cells-total net is =
    let each : All (λ (c : Cell). c.cap ≤ MAX_UNITS) net.cells = All-weaker (IsCell net.nodes) (λ (c : Cell). c.cap ≤ MAX_UNITS) (λ c fits. fits.cap) net.cells is.cells in
    let whole = sum_by-le (λ (c : Cell). c.cap) MAX_UNITS net.cells each in
    let count = is.cell_count in
    omega arith

amounts-as-cells : (both : Bool) (ks : List Commodity) → total_capacity (map (as_cell both) ks) ≡ sum_by (λ (k : Commodity). k.amount) ks
amounts-as-cells both [] = refl
amounts-as-cells both (k ∷ ks) =
    let rest = amounts-as-cells both ks in
    omega (arith, sum_by-cons (λ (c : Cell). c.cap) (as_cell both k) (map (as_cell both) ks), sum_by-cons (λ (d : Commodity). d.amount) k ks)

pub demands-total : (net : Network) (both : Bool) → IsNetwork net → total_capacity (map (as_cell both) net.commodities) ≤ MAX_CELLS * MAX_UNITS
demands-total net both is =
    let same = amounts-as-cells both net.commodities in
    let total = is.total in
    omega arith

-- ---- cuts round one node

both-equal : (a b v : ℕ) → eqb a v ≡ true → eqb b v ≡ true → eqb a b ≡ true
both-equal a b v e f = grind (arith, nat_tests)

first-equal : (a b v : ℕ) → eqb a v ≡ true → eqb b v ≡ false → eqb a b ≡ false
first-equal a b v e f = grind (arith, nat_tests)

second-equal : (a b v : ℕ) → eqb a v ≡ false → eqb b v ≡ true → eqb a b ≡ false
second-equal a b v e f = grind (arith, nat_tests)

-- by the tests of tail and head against the node, and of each against the other
out-table : (t h e c : Bool) (m : ℕ) → (t ≡ true → h ≡ true → e ≡ true) → (t ≡ true → h ≡ false → e ≡ false) → (t ≡ false → h ≡ true → e ≡ false)
    → cond ((t && not h) || (c && (h && not t))) m 0 ≡ cond t (cond e 0 m) 0 + cond h (cond c (cond e 0 m) 0) 0
out-table true true true true m x y z = refl
out-table true true true false m x y z = refl
out-table true true false c m x y z = absurd (let e : false ≡ true = x refl refl in cc)
out-table true false false c m x y z = omega arith
out-table true false true c m x y z = absurd (let e : true ≡ false = y refl refl in cc)
out-table false true false true m x y z = omega arith
out-table false true false false m x y z = refl
out-table false true true c m x y z = absurd (let e : true ≡ false = z refl refl in cc)
out-table false false e true m x y z = refl
out-table false false e false m x y z = refl

in-table : (t h e c : Bool) (m : ℕ) → (t ≡ true → h ≡ true → e ≡ true) → (t ≡ true → h ≡ false → e ≡ false) → (t ≡ false → h ≡ true → e ≡ false)
    → cond ((not t && not (not h)) || (c && (not h && not (not t)))) m 0 ≡ cond h (cond e 0 m) 0 + cond t (cond c (cond e 0 m) 0) 0
in-table true true true true m x y z = refl
in-table true true true false m x y z = refl
in-table true true false c m x y z = absurd (let e : false ≡ true = x refl refl in cc)
in-table true false false true m x y z = omega arith
in-table true false false false m x y z = refl
in-table true false true c m x y z = absurd (let e : true ≡ false = y refl refl in cc)
in-table false true false c m x y z = omega arith
in-table false true true c m x y z = absurd (let e : true ≡ false = z refl refl in cc)
in-table false false e true m x y z = refl
in-table false false e false m x y z = refl

node-point : (into : Bool) (v : ℕ) (cell : Cell) → cond (leaves (node_side into v) cell) cell.cap 0 ≡ node_part into v cell
node-point false v cell =
    out-table (eqb cell.tail v) (eqb cell.head v) (eqb cell.tail cell.head) cell.both cell.cap
    (both-equal cell.tail cell.head v) (first-equal cell.tail cell.head v) (second-equal cell.tail cell.head v)
node-point true v cell =
    in-table (eqb cell.tail v) (eqb cell.head v) (eqb cell.tail cell.head) cell.both cell.cap
    (both-equal cell.tail cell.head v) (first-equal cell.tail cell.head v) (second-equal cell.tail cell.head v)

-- what the parts add up to
pub node-leaving : (into : Bool) (v : ℕ) (cells : List Cell) → sum_by (node_part into v) cells ≡ leaving (node_side into v) cells
node-leaving into v cells =
    sym (sum-same (λ (c : Cell). cond (leaves (node_side into v) c) c.cap 0) (node_part into v) cells (λ i d l. node-point into v (get_or cells i d)))
    ∙ sym (sum-test (λ (c : Cell). c.cap) (leaves (node_side into v)) cells)

cond-le : (b : Bool) (cap : ℕ) → cond b cap 0 ≤ cap
cond-le true cap = omega arith
cond-le false cap = omega arith

pub node-part-le : (into : Bool) (v : ℕ) (cell : Cell) → node_part into v cell ≤ cell.cap
node-part-le into v cell = let e = node-point into v cell in let l = cond-le (leaves (node_side into v) cell) cell.cap in omega arith

cond-cap : (b : Bool) (n cap : ℕ) → n ≤ cap → cond b n 0 ≤ cap
cond-cap true n cap l = l
cond-cap false n cap l = omega arith

pub cond-small : (b : Bool) (n : ℕ) → cond b n 0 ≤ n
cond-small b n = cond-le b n

cond-none-le : (b : Bool) (cap : ℕ) → cond b 0 cap ≤ cap
cond-none-le true cap = omega arith
cond-none-le false cap = omega arith

pub node-small : (into : Bool) (v : ℕ) (cells : List Cell) (i : ℕ) → sum_by (node_part into v) (take i cells) ≤ total_capacity cells
node-small into v cells i = part-below (node_part into v) cells i (node-part-le into v)

pub arc-small : (into : Bool) (nodes : ℕ) (cells : List Cell) (i : ℕ) (d : Cell) (arc : Arc) → All (IsCell nodes) cells → i < length cells → arc ≡ arc_in into (get_or cells i d) → (arc.amount ≤ MAX_UNITS) × (arc.back ≤ MAX_UNITS)
arc-small into nodes cells i d arc fits l e =
    let cell = get_or cells i d in
    let cap = (fits i d l).cap in
    let amount = cond-none-le (eqb cell.tail cell.head) cell.cap in
    let back = cond-cap cell.both (cond (eqb cell.tail cell.head) 0 cell.cap) cell.cap amount in
    (omega (arith, ap (λ (a : Arc). a.amount) e), omega (arith, ap (λ (a : Arc). a.back) e))

-- one more number at the end
pub pushed : (xs ys : List ℕ) (x j : ℕ) (f : ℕ → ℕ) → ys ≡ xs ++ x ∷ [] → length xs ≡ j → x ≡ f j → ((k : ℕ) → k < j → get_or xs k 0 ≡ f k) → (k : ℕ) → k < j + 1 → get_or ys k 0 ≡ f k
pushed xs ys x j f e len is h k l = ap (λ (zs : List ℕ). get_or zs k 0) e ∙ elim (cases_eq k j) [
  | inl at ↦ ap (λ (m : ℕ). get_or (xs ++ x ∷ []) m 0) at ∙ (get_or_push xs x 0 j len ∙ (is ∙ ap f (sym at)))
  | inr off ↦ let inside : k < length xs = omega arith in get_or_append_left xs (x ∷ []) 0 k inside ∙ h k (omega arith)
]

-- ---- fronts by rank

and-true : (c : Bool) (cap : ℕ) → cond (c && true) cap 0 ≡ cond c cap 0
and-true true cap = refl
and-true false cap = refl

and-false : (c : Bool) (cap : ℕ) → cond (c && false) cap 0 ≡ 0
and-false true cap = refl
and-false false cap = refl

-- from the tests of both ranks against j and j + 1, of the least and the greatest against j, and of the first against the second
RankTable : ℕ → (a0 a1 b0 b1 lo hi le c : Bool) → Type 0
RankTable cap a0 a1 b0 b1 lo hi le c =
    cond ((a0 && not b0) || (c && (b0 && not a0))) cap 0 + cond lo (cond (le || c) cap 0) 0
    ≡ cond ((a1 && not b1) || (c && (b1 && not a1))) cap 0 + cond hi (cond (le || c) cap 0) 0

rank-row : (a b j cap : ℕ) (c : Bool) (a0 a1 b0 b1 lo hi le : Bool) → ltb a j ≡ a0 → ltb a (j + 1) ≡ a1 → ltb b j ≡ b0 → ltb b (j + 1) ≡ b1 → eqb (min a b) j ≡ lo → eqb (max a b) j ≡ hi → leb a b ≡ le
    → RankTable cap a0 a1 b0 b1 lo hi le c → RankTable cap (ltb a j) (ltb a (j + 1)) (ltb b j) (ltb b (j + 1)) (eqb (min a b) j) (eqb (max a b) j) (leb a b) c
rank-row a b j cap c a0 a1 b0 b1 lo hi le x y z w u v t h = rw (x, y, z, w, u, v, t) h

rank-point : (a b j cap : ℕ) (c : Bool) → RankTable cap (ltb a j) (ltb a (j + 1)) (ltb b j) (ltb b (j + 1)) (eqb (min a b) j) (eqb (max a b) j) (leb a b) c
unfolding RankTable
rank-point a b j cap c = elim (cases_order a j) [
  | inl a-is ↦ elim (cases_order b j) [
    | inl b-is ↦ rank-row a b j cap c false true false true true true true (le-ltb a j (omega arith)) (lt-ltb a (j + 1) (omega arith)) (le-ltb b j (omega arith)) (lt-ltb b (j + 1) (omega arith))
        (eq-eqb (min a b) j (omega arith)) (eq-eqb (max a b) j (omega arith)) (le-leb a b (omega arith)) (omega (arith, and-false c cap))
    | inr (inl b-below) ↦ rank-row a b j cap c false true true true false true false (le-ltb a j (omega arith)) (lt-ltb a (j + 1) (omega arith)) (lt-ltb b j (omega arith)) (lt-ltb b (j + 1) (omega arith))
        (ne_eqb (min a b) j (λ e. absurd (omega arith))) (eq-eqb (max a b) j (omega arith)) (lt-leb a b (omega arith)) (omega (arith, and-true c cap, and-false c cap))
    | inr (inr b-above) ↦ rank-row a b j cap c false true false false true false true (le-ltb a j (omega arith)) (lt-ltb a (j + 1) (omega arith)) (le-ltb b j (omega arith)) (le-ltb b (j + 1) (omega arith))
        (eq-eqb (min a b) j (omega arith)) (ne_eqb (max a b) j (λ e. absurd (omega arith))) (le-leb a b (omega arith)) (omega (arith, and-false c cap))
  ]
  | inr (inl a-below) ↦ elim (cases_order b j) [
    | inl b-is ↦ rank-row a b j cap c true true false true false true true (lt-ltb a j (omega arith)) (lt-ltb a (j + 1) (omega arith)) (le-ltb b j (omega arith)) (lt-ltb b (j + 1) (omega arith))
        (ne_eqb (min a b) j (λ e. absurd (omega arith))) (eq-eqb (max a b) j (omega arith)) (le-leb a b (omega arith)) (omega (arith, and-false c cap))
    | inr (inl b-below) ↦ rank-row a b j cap c true true true true false false (leb a b) (lt-ltb a j (omega arith)) (lt-ltb a (j + 1) (omega arith)) (lt-ltb b j (omega arith)) (lt-ltb b (j + 1) (omega arith))
        (ne_eqb (min a b) j (λ e. absurd (omega arith))) (ne_eqb (max a b) j (λ e. absurd (omega arith))) refl refl
    | inr (inr b-above) ↦ rank-row a b j cap c true true false false false false true (lt-ltb a j (omega arith)) (lt-ltb a (j + 1) (omega arith)) (le-ltb b j (omega arith)) (le-ltb b (j + 1) (omega arith))
        (ne_eqb (min a b) j (λ e. absurd (omega arith))) (ne_eqb (max a b) j (λ e. absurd (omega arith))) (le-leb a b (omega arith)) refl
  ]
  | inr (inr a-above) ↦ elim (cases_order b j) [
    | inl b-is ↦ rank-row a b j cap c false false false true true false false (le-ltb a j (omega arith)) (le-ltb a (j + 1) (omega arith)) (le-ltb b j (omega arith)) (lt-ltb b (j + 1) (omega arith))
        (eq-eqb (min a b) j (omega arith)) (ne_eqb (max a b) j (λ e. absurd (omega arith))) (lt-leb a b (omega arith)) (omega (arith, and-true c cap, and-false c cap))
    | inr (inl b-below) ↦ rank-row a b j cap c false false true true false false false (le-ltb a j (omega arith)) (le-ltb a (j + 1) (omega arith)) (lt-ltb b j (omega arith)) (lt-ltb b (j + 1) (omega arith))
        (ne_eqb (min a b) j (λ e. absurd (omega arith))) (ne_eqb (max a b) j (λ e. absurd (omega arith))) (lt-leb a b (omega arith)) refl
    | inr (inr b-above) ↦ rank-row a b j cap c false false false false false false (leb a b) (le-ltb a j (omega arith)) (le-ltb a (j + 1) (omega arith)) (le-ltb b j (omega arith)) (le-ltb b (j + 1) (omega arith))
        (ne_eqb (min a b) j (λ e. absurd (omega arith))) (ne_eqb (max a b) j (λ e. absurd (omega arith))) refl refl
  ]
]

front-point : (rank : ℕ → ℕ) (j : ℕ) (cell : Cell) → cond (leaves (rank_front rank j) cell) cell.cap 0 + cond (eqb (span_in rank cell).low j) (span_in rank cell).amount 0
    ≡ cond (leaves (rank_front rank (j + 1)) cell) cell.cap 0 + cond (eqb (span_in rank cell).high j) (span_in rank cell).amount 0
unfolding RankTable
front-point rank j cell = rank-point (rank cell.tail) (rank cell.head) j cell.cap cell.both

none-below : (rank : ℕ → ℕ) (cell : Cell) → cond (leaves (rank_front rank 0) cell) cell.cap 0 ≡ 0
none-below rank cell = rw (le-ltb (rank cell.tail) 0 (omega arith), le-ltb (rank cell.head) 0 (omega arith)) (and-false cell.both cell.cap)

part-le : (a b c : Bool) (cap : ℕ) → cond a (cond (b || c) cap 0) 0 ≤ cap
part-le true b c cap = cond-le (b || c) cap
part-le false b c cap = omega arith

pub starting-le : (rank : ℕ → ℕ) (p : ℕ) (cell : Cell) → cond (eqb (span_in rank cell).low p) (span_in rank cell).amount 0 ≤ cell.cap
starting-le rank p cell = part-le (eqb (span_in rank cell).low p) (leb (rank cell.tail) (rank cell.head)) cell.both cell.cap

pub ending-le : (rank : ℕ → ℕ) (p : ℕ) (cell : Cell) → cond (eqb (span_in rank cell).high p) (span_in rank cell).amount 0 ≤ cell.cap
ending-le rank p cell = part-le (eqb (span_in rank cell).high p) (leb (rank cell.tail) (rank cell.head)) cell.both cell.cap

-- the fronts' sums come one from the other
pub front-steps : (rank : ℕ → ℕ) (cells : List Cell) (starts ends : List ℕ) → total_capacity cells ≤ MAX_CELLS * MAX_UNITS
    → ((p : ℕ) → get_or starts p 0 ≡ starting rank p cells) → ((p : ℕ) → get_or ends p 0 ≡ ending rank p cells)
    → AreSteps (λ j. leaving (rank_front rank j) cells) starts ends
front-steps rank cells starts ends total from to =
    let by-test : (j : ℕ) → leaving (rank_front rank j) cells ≡ sum_by (λ (c : Cell). cond (leaves (rank_front rank j) c) c.cap 0) cells = λ j. sum-test (λ (c : Cell). c.cap) (leaves (rank_front rank j)) cells in
    record {
      first = by-test 0 ∙ sum-none (λ (c : Cell). cond (leaves (rank_front rank 0) c) c.cap 0) cells (none-below rank);
      next = λ j l.
          let pairs = sum-pairs (λ (c : Cell). cond (leaves (rank_front rank j) c) c.cap 0) (λ (c : Cell). cond (eqb (span_in rank c).low j) (span_in rank c).amount 0)
          (λ (c : Cell). cond (leaves (rank_front rank (j + 1)) c) c.cap 0) (λ (c : Cell). cond (eqb (span_in rank c).high j) (span_in rank c).amount 0) cells (front-point rank j) in
          omega (arith, by-test j, by-test (j + 1), from j, to j);
      small = λ j l.
          let level = sum-below (λ (c : Cell). cond (leaves (rank_front rank j) c) c.cap 0) cells (λ c. cond-le (leaves (rank_front rank j) c) c.cap) in
          let start = sum-below (λ (c : Cell). cond (eqb (span_in rank c).low j) (span_in rank c).amount 0) cells (starting-le rank j) in
          omega (arith, by-test j, from j);
    }

pub starting-small : (rank : ℕ → ℕ) (p : ℕ) (cells : List Cell) (i : ℕ) → starting rank p (take i cells) ≤ total_capacity cells
starting-small rank p cells i = part-below (λ (c : Cell). cond (eqb (span_in rank c).low p) (span_in rank c).amount 0) cells i (starting-le rank p)

pub ending-small : (rank : ℕ → ℕ) (p : ℕ) (cells : List Cell) (i : ℕ) → ending rank p (take i cells) ≤ total_capacity cells
ending-small rank p cells i = part-below (λ (c : Cell). cond (eqb (span_in rank c).high p) (span_in rank c).amount 0) cells i (ending-le rank p)

pub span-small : (rank : ℕ → ℕ) (nodes : ℕ) (cells : List Cell) (i : ℕ) (d : Cell) (span : Span) → All (IsCell nodes) cells → i < length cells → span ≡ span_in rank (get_or cells i d) → span.amount ≤ MAX_UNITS
span-small rank nodes cells i d span fits l e =
    let cell = get_or cells i d in
    let cap = (fits i d l).cap in
    let amount = cond-le (leb (rank cell.tail) (rank cell.head) || cell.both) cell.cap in
    omega (arith, ap (λ (a : Span). a.amount) e)
