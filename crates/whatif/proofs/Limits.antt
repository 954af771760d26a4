-- What a valid certificate loads: not nothing, and not too much.
use Rattle.std.proofs.Common.{◌≡◌, ◌≢◌, ℕ, zero, suc, ◌+◌, ◌-◌, ◌*◌, ◌<◌, ◌≤◌, Bool, true, false, cond, eqb, List, [], ◌∷◌, length, get_or, map, inl, inr, sym, ap, subst, ◌∙◌, arith, refl, All, Some}
use Rattle.std.specs.Prelude.{replicate, find}
use Rattle.std.specs.Option.{option_map_or}
use Rattle.std.specs.List.{sum_by}
use Rattle.std.proofs.Math.Nat.{mul-le-mul_left}
use Rattle.std.proofs.lemmas.Nat.{mul-le}
use Rattle.std.proofs.lemmas.Bool.{cases_lt}
use Rattle.std.proofs.lemmas.Bool.Decides.{eqb_tells}
use Rattle.std.proofs.lemmas.List.{get_or-replicate, length-replicate}
use Rattle.std.proofs.lemmas.List.Sums.{sum_by-cons, count_by-le-length}
use Rattle.std.proofs.lemmas.List.Elements.{All-head, All-tail, All-cons}
use Rattle.std.proofs.lemmas.List.FromFn.{get_or-map-range_with_len, length-map-range_with_len}
use Rattle.std.proofs.lemmas.Option.{slice_get-get_or, slice_get_within, get_or_from_slice_get}
use Rattle.mcf_limits.specs.declared.TheConstants.{MAX_LENGTH, MAX_PATH_CELLS, MAX_PHASES, MAX_TOTAL}
use Rattle.gap_fraction.specs.declared.fraction.TheConstants.{MAX_PART}
use Rattle.flow_model.specs.declared.net.Cell.{Cell}
use Rattle.flow_model.specs.declared.net.Commodity.{Commodity}
use Rattle.flow_model.specs.Network.{Network, IsNetwork}
use Rattle.flow_model.specs.Walk.{IsWalk, times}
use Rattle.flow_model.specs.Routing.{Row, carried, load_of, Joins}
use Rattle.flow_model.specs.Bound.{weighted_sum}
use Rattle.flow_model.proofs.Duality.{dot, dot-le, dot-carried, dot-weighted_sum, no_commodity}
use Rattle.flow_paths.specs.DualRows.{Potential}
use Rattle.flow_paths.specs.declared.certificate.Proof.{Proof}
use Rattle.flow_paths.specs.declared.certificate.Routing.{Routing}
use Rattle.flow_paths.specs.Certificate.{IsProofOf, IsRoutingOf, IsRowOf, IsValid, IsValidRouting, distance_of, distances_in, upper_of}
use Rattle.flow_paths.specs.Evaluation.{loads_of}
use Rattle.whatif.specs.declared.ratio.TheConstants.{MAX_LOAD}

-- ---- a commodity that is carried loads a cell

record IsLoaded (cells : List Cell) (rows : List Row) : Type 0 where
  cell : ℕ
  within : cell < length cells
  some : 1 ≤ load_of rows cell

times_here : (c : ℕ) (walk : List ℕ) → 1 ≤ times c (c ∷ walk)
times_here c walk = elim (eqb_tells c c) as (λ _. 1 ≤ times c (c ∷ walk)) [
  | inl p ↦ rw (sum_by-cons (λ x. cond (eqb x c) 1 0) c walk, p.0) (omega arith)
  | inr p ↦ absurd (p.1 refl)
]

walk_cell : (cells : List Cell) (u v : ℕ) (walk : List ℕ) → IsWalk cells u v walk → u ≢ v → (c : ℕ) × (c < length cells) × (1 ≤ times c walk)
walk_cell cells u v [] w apart = absurd (apart w)
walk_cell cells u v (c ∷ walk) (x, (cell, at, goes), rest) apart = (c, slice_get_within cells c cell at, times_here c walk)

row_loads : (net : Network) (r : Row) (rows : List Row) → IsNetwork net → Joins net r → 1 ≤ r.weight → IsLoaded net.cells (r ∷ rows)
row_loads net r rows n (k, at, walk) some =
    let inside = slice_get_within net.commodities r.commodity k at in
    let known = n.commodities r.commodity no_commodity inside in
    let apart : k.from ≢ k.to = subst (λ (k : Commodity). k.from ≢ k.to) (get_or_from_slice_get net.commodities r.commodity k no_commodity at) known.apart in
    let c = walk_cell net.cells k.from k.to r.walk walk apart in
    let cons = sum_by-cons (λ s. s.weight * times c.0 s.walk) r rows in
    let product : r.weight * 1 ≤ r.weight * times c.0 r.walk = mul-le-mul_left r.weight c.2 in
    record { cell = c.0; within = c.1; some = omega arith }

carried_loads : (net : Network) (rows : List Row) (k : ℕ) → IsNetwork net → All (Joins net) rows → 1 ≤ carried rows k → IsLoaded net.cells rows
carried_loads net [] k n joins some = absurd (omega arith)
carried_loads net (r ∷ rows) k n joins some = elim (cases_lt 0 (carried rows k)) as (λ _. IsLoaded net.cells (r ∷ rows)) [
  | inl lt ↦
      let rest = carried_loads net rows k n (All-tail (Joins net) r rows joins) lt in
      let low = rest.some in
      let cons = sum_by-cons (λ s. s.weight * times rest.cell s.walk) r rows in
      record { cell = rest.cell; within = rest.within; some = omega arith }
  | inr none ↦
      let cons = sum_by-cons (λ s. cond (eqb s.commodity k) s.weight 0) r rows in
      let mine : 1 ≤ cond (eqb r.commodity k) r.weight 0 = omega arith in
      row_loads net r rows n (All-head (Joins net) r rows joins) (weight_of (eqb r.commodity k) r.weight mine)
]
  where
    weight_of : (b : Bool) (w : ℕ) → 1 ≤ cond b w 0 → 1 ≤ w
    weight_of true w h = h
    weight_of false w h = absurd (omega arith)

product_low : (a b : ℕ) → a ≢ 0 → 1 ≤ b → 1 ≤ a * b
product_low a b ne low = let p : a * 1 ≤ a * b = mul-le-mul_left a low in omega arith

pub some_load : (net : Network) (proof : Proof) → IsNetwork net → IsValid net proof → proof.routing.phases ≢ 0
    → (c : ℕ) × (c < length (loads_of net proof.routing.paths)) × (get_or (loads_of net proof.routing.paths) c 0 ≢ 0)
some_load net proof n v phases =
    let rows = proof.routing.paths in
    let size = length-map-range_with_len (load_of rows) 0 (length net.cells) in
    let first = get_or net.commodities 0 no_commodity in
    let amount : 1 ≤ first.amount = (n.commodities 0 no_commodity (omega (arith, n.some))).positive in
    let is : carried rows 0 ≡ proof.routing.phases * first.amount = v.routing.carried 0 first (slice_get-get_or net.commodities 0 no_commodity (omega (arith, n.some))) in
    let low = product_low proof.routing.phases first.amount phases amount in
    let l = carried_loads net rows 0 n v.routing.walks (omega arith) in
    let low_load = l.some in
    let inside = l.within in
    let here : get_or (loads_of net rows) l.cell 0 ≡ load_of rows l.cell = get_or-map-range_with_len (load_of rows) 0 (length net.cells) l.cell l.cell 0 inside (omega arith) in
    (l.cell, omega arith, λ z. absurd (omega arith))

-- ---- a load is within the limit

total_weight : List Row → ℕ
total_weight rows = sum_by (λ r. r.weight) rows

load_below : (net : Network) (c : ℕ) (rows : List Row) → All (IsRowOf net) rows → load_of rows c ≤ MAX_PATH_CELLS * total_weight rows
unfolding total_weight
load_below net c [] known = omega arith
load_below net c (r ∷ rows) known =
    let rest = load_below net c rows (All-tail (IsRowOf net) r rows known) in
    let short = (All-head (IsRowOf net) r rows known).short in
    let few = count_by-le-length (λ x. eqb x c) r.walk in
    let most : r.weight * times c r.walk ≤ r.weight * MAX_PATH_CELLS = mul-le-mul_left r.weight (omega arith) in
    let loads = sum_by-cons (λ s. s.weight * times c s.walk) r rows in
    let weights = sum_by-cons (λ s. s.weight) r rows in
    omega arith

by_ones : (net : Network) (n : ℕ) (rows : List Row) → All (λ r. r.commodity < n) rows → total_weight rows ≡ sum_by (λ r. r.weight * get_or (replicate n 1) r.commodity 0) rows
unfolding total_weight
by_ones net n [] known = refl
by_ones net n (r ∷ rows) known =
    let rest = by_ones net n rows (All-tail (λ r. r.commodity < n) r rows known) in
    let one : get_or (replicate n 1) r.commodity 0 ≡ 1 = get_or-replicate n r.commodity 1 0 (All-head (λ r. r.commodity < n) r rows known) in
    let left = sum_by-cons (λ s. s.weight) r rows in
    let right = sum_by-cons (λ s. s.weight * get_or (replicate n 1) s.commodity 0) r rows in
    let product : r.weight * get_or (replicate n 1) r.commodity 0 ≡ r.weight * 1 = ap (λ k. r.weight * k) one in
    omega arith

ones_sum : (f : Commodity → ℕ) (xs : List Commodity) → weighted_sum f xs (replicate (length xs) 1) ≡ sum_by f xs
ones_sum f [] = refl
ones_sum f (x ∷ xs) = let rest = ones_sum f xs in let cons = sum_by-cons f x xs in omega arith

dot-times : (a : ℕ) (f : ℕ → ℕ) (ys : List ℕ) → dot (λ i. a * f i) ys ≡ a * dot f ys
dot-times a f [] = omega arith
dot-times a f (y ∷ ys) =
    let rest : dot (λ i. a * f (suc i)) ys ≡ a * dot (λ i. f (suc i)) ys = dot-times a (λ i. f (suc i)) ys in
    omega arith

weights_below : (net : Network) (r : Routing) → IsValidRouting net r → IsRoutingOf net r → total_weight r.paths ≤ r.phases * sum_by (λ k. k.amount) net.commodities
weights_below net r v known =
    let n = length net.commodities in
    let ones : List ℕ = replicate n 1 in
    let amount : ℕ → ℕ = λ k. (get_or net.commodities k no_commodity).amount in
    let rows : total_weight r.paths ≡ dot (carried r.paths) ones = by_ones net n r.paths (λ k d lt. (known.rows k d lt).commodity) ∙ sym (dot-carried r.paths ones) in
    let each : dot (carried r.paths) ones ≤ dot (λ k. r.phases * amount k) ones = dot-le (carried r.paths) (λ k. r.phases * amount k) ones (λ k lt. carried_le k lt) in
    let out = dot-times r.phases amount ones in
    let sums : dot amount ones ≡ sum_by (λ k. k.amount) net.commodities = dot-weighted_sum (λ k. k.amount) no_commodity net.commodities ones refl ∙ ones_sum (λ k. k.amount) net.commodities in
    let product : r.phases * dot amount ones ≡ r.phases * sum_by (λ k. k.amount) net.commodities = ap (λ s. r.phases * s) sums in
    omega arith
  where
    carried_le : (k : ℕ) → k < length {A = ℕ} (replicate (length net.commodities) 1) → carried r.paths k ≤ r.phases * (get_or net.commodities k no_commodity).amount
    carried_le k lt =
        let inside : k < length net.commodities = omega (arith, length-replicate {A = ℕ} (length net.commodities) 1) in
        let is = v.carried k (get_or net.commodities k no_commodity) (slice_get-get_or net.commodities k no_commodity inside) in
        omega arith

pub load_within : (net : Network) (proof : Proof) → IsNetwork net → IsProofOf net proof → IsValid net proof → (c : ℕ) → load_of proof.routing.paths c ≤ MAX_LOAD
load_within net proof n known v c =
    let r = proof.routing in
    let a = load_below net c r.paths known.routing.rows in
    let b = weights_below net r v.routing known.routing in
    let p : r.phases * sum_by (λ k. k.amount) net.commodities ≤ MAX_PHASES * MAX_TOTAL = mul-le r.phases (sum_by (λ k. k.amount) net.commodities) MAX_PHASES MAX_TOTAL known.routing.phases n.total in
    omega arith

-- ---- the weighted distance is within the limit

sum_below : {X : Type 0} (f : X → ℕ) (most : ℕ) (xs : List X) (ys : List ℕ) → All (λ y. y ≤ most) ys → weighted_sum f xs ys ≤ most * sum_by f xs
sum_below f most [] ys h = omega arith
sum_below f most (x ∷ xs) [] h = omega arith
sum_below f most (x ∷ xs) (y ∷ ys) h =
    let rest = sum_below f most xs ys (All-tail (λ y. y ≤ most) y ys h) in
    let part : f x * y ≤ f x * most = mul-le-mul_left (f x) (All-head (λ y. y ≤ most) y ys h) in
    let cons = sum_by-cons f x xs in
    let product : most * sum_by f (x ∷ xs) ≡ most * (f x + sum_by f xs) = ap (λ s. most * s) cons in
    omega arith

small_at : (xs : List ℕ) (i most : ℕ) → All (λ n. n ≤ most) xs → get_or xs i 0 ≤ most
small_at [] i most h = omega arith
small_at (x ∷ xs) zero most h = All-head (λ n. n ≤ most) x xs h
small_at (x ∷ xs) (suc i) most h = small_at xs i most (All-tail (λ n. n ≤ most) x xs h)

-- no potential is over the limit
abbrev pub AreSmall : List Potential → Type 0
AreSmall rows = All (λ r. All (λ p. p ≤ MAX_LENGTH) r.values) rows

difference_le : (p : Potential → Bool) (rows : List Potential) (from to : ℕ) → AreSmall rows → option_map_or (λ r. get_or r.values to 0 - get_or r.values from 0) (find p rows) 0 ≤ MAX_LENGTH
difference_le p [] from to h = omega arith
difference_le p (r ∷ rows) from to h =
    let rest = difference_le p rows from to (All-tail (λ r. All (λ p. p ≤ MAX_LENGTH) r.values) r rows h) in
    let here = small_at r.values to MAX_LENGTH (All-head (λ r. All (λ p. p ≤ MAX_LENGTH) r.values) r rows h) in
    elim (p r) as (λ (b : Bool). option_map_or (λ r. get_or r.values to 0 - get_or r.values from 0) (cond b (Some r) (find p rows)) 0 ≤ MAX_LENGTH) [ true ↦ omega arith | false ↦ rest ]

distances_small : (rows : List Potential) (ks : List Commodity) → AreSmall rows → All (λ n. n ≤ MAX_LENGTH) (map (distance_of rows) ks)
distances_small rows [] h = λ k d lt. absurd (omega arith)
distances_small rows (k ∷ ks) h = All-cons (λ n. n ≤ MAX_LENGTH) (distance_of rows k) (map (distance_of rows) ks) (difference_le (λ r. eqb r.node k.from) rows k.from k.to h) (distances_small rows ks h)

pub distance_within : (net : Network) (proof : Proof) → IsNetwork net → AreSmall proof.dual.potentials → (upper_of net proof.dual).den ≤ MAX_PART
distance_within net proof n h =
    let below = sum_below (λ k. k.amount) MAX_LENGTH net.commodities (distances_in net proof.dual) (distances_small proof.dual.potentials net.commodities h) in
    omega (arith, n.total)
