-- The weighted distance of a dual is what its rows are weighted with.
use Rattle.std.proofs.Common.{◌≡◌, inl, inr, ℕ, suc, ◌+◌, ◌*◌, ◌-◌, ◌^◌, ◌≤◌, List, [], ◌∷◌, Bool, true, false, cond, eqb, length, get_or, Some, refl, sym, ap, ◌∙◌, arith}
use Rattle.std.specs.Prelude.{All, count_by, filter, find}
use Rattle.std.specs.List.{sum_by}
use Rattle.std.proofs.lemmas.List.Sums.{sum_by-cons}
use Rattle.std.proofs.lemmas.List.Elements.{All-map, All-weaker}
use Rattle.std.proofs.lemmas.Bool.{cases_eq, eq-eqb, ne_eqb}
use Rattle.std.proofs.Math.Nat.{mul-le-mul}
use Rattle.flow_model.specs.declared.net.Commodity.{Commodity}
use Rattle.flow_model.specs.Network.{Network, IsNetwork, IsCommodity}
use Rattle.flow_paths.specs.DualRows.{Potential}
use Rattle.flow_paths.specs.Certificate.{distance_of}
use Rattle.flow_paths.proofs.Products.{weighted_sum-map}
use Rattle.mcf_limits.specs.declared.TheConstants.{MAX_LENGTH}
use Rattle.dual_bound.specs.declared.rows.Row.{Row}
use Rattle.dual_bound.specs.declared.rows.Target.{Target}
use Rattle.dual_bound.specs.Rows.{AreWeighted, IsFilledWith, demands_in, demands_of, potential_of, potentials_of, weight_of, weighted_from}
use Rattle.dual_bound.proofs.Bounding.{one-row}
use Rattle.dual_bound.proofs.Demands.{sources-in, sum-map, targets-in}
use Rattle.dual_bound.proofs.Distances.{distance-by}
use Rattle.dual_bound.proofs.DualRows.{row-found}

sum-plus : {X : Type 0} (f g : X → ℕ) (xs : List X) → sum_by (λ x. f x + g x) xs ≡ sum_by f xs + sum_by g xs
sum-plus f g [] = refl
sum-plus f g (x ∷ xs) = omega (arith, sum_by-cons (λ y. f y + g y) x xs, sum-plus f g xs, sum_by-cons f x xs, sum_by-cons g x xs)

sum-zero : {X : Type 0} (xs : List X) → sum_by (λ x. 0) xs ≡ 0
sum-zero [] = refl
sum-zero (x ∷ xs) = omega (arith, sum_by-cons (λ y. 0) x xs, sum-zero xs)

sum-same : {X : Type 0} (f g : X → ℕ) (xs : List X) → All (λ x. f x ≡ g x) xs → sum_by f xs ≡ sum_by g xs
sum-same f g [] h = refl
sum-same f g (x ∷ xs) h = omega (arith, sum_by-cons f x xs, h 0 x (omega arith), sum-same f g xs (λ k d l. h (suc k) d (omega arith)), sum_by-cons g x xs)

-- what a commodity adds to a row of its source
abbrev part : Row → Commodity → ℕ
part row k = k.amount * (get_or row.values.items k.to 0 - get_or row.values.items row.source 0)

abbrev starts : Row → Commodity → Bool
starts row k = eqb k.from row.source

-- what it adds to all rows
abbrev spread : List Row → Commodity → ℕ
spread rows k = sum_by (λ row. cond (starts row k) (part row k) 0) rows

filter-sum : (f : Commodity → ℕ) (p : Commodity → Bool) (k : Commodity) (ks : List Commodity) → sum_by f (filter p (k ∷ ks)) ≡ cond (p k) (f k) 0 + sum_by f (filter p ks)
filter-sum f p k ks = step (p k)
  where
    step : (b : Bool) → sum_by f (cond b (k ∷ filter p ks) (filter p ks)) ≡ cond b (f k) 0 + sum_by f (filter p ks)
    step true = sum_by-cons f k (filter p ks)
    step false = omega arith

-- row by row, or commodity by commodity
across : (rows : List Row) (cs : List Commodity) → sum_by (λ row. sum_by (part row) (filter (starts row) cs)) rows ≡ sum_by (spread rows) cs
across rows [] = sum-zero rows
across rows (k ∷ ks) =
    let one : Row → ℕ = λ row. cond (starts row k) (part row k) 0 in
    let rest : Row → ℕ = λ row. sum_by (part row) (filter (starts row) ks) in
    sum-same (λ row. sum_by (part row) (filter (starts row) (k ∷ ks))) (λ row. one row + rest row) rows (λ i d l. filter-sum (part (get_or rows i d)) (starts (get_or rows i d)) k ks)
    ∙ (sum-plus one rest rows ∙ (ap (λ (n : ℕ). spread rows k + n) (across rows ks) ∙ sym (sum_by-cons (spread rows) k ks)))

counts : (row : Row) (rows : List Row) (v : ℕ) → count_by (λ (r : Potential). eqb r.node v) (potentials_of (row ∷ rows)) ≡ cond {A = ℕ} (eqb row.source v) 1 0 + count_by (λ (r : Potential). eqb r.node v) (potentials_of rows)
counts row rows v = sum_by-cons (λ (r : Potential). cond {A = ℕ} (eqb r.node v) 1 0) (potential_of row) (potentials_of rows)

spread-cons : (row : Row) (rows : List Row) (k : Commodity) → spread (row ∷ rows) k ≡ cond (starts row k) (part row k) 0 + spread rows k
spread-cons row rows k = sum_by-cons (λ (r : Row). cond (starts r k) (part r k) 0) row rows

none : (rows : List Row) (k : Commodity) → count_by (λ (r : Potential). eqb r.node k.from) (potentials_of rows) ≡ 0 → spread rows k ≡ 0
none [] k e = refl
none (row ∷ rows) k e = elim (cases_eq row.source k.from) [
  | inl is ↦
      let one : cond {A = ℕ} (eqb row.source k.from) 1 0 ≡ 1 = ap (λ (b : Bool). cond {A = ℕ} b 1 0) (eq-eqb row.source k.from is) in
      absurd (omega (arith, counts row rows k.from, one))
  | inr apart ↦
      let here : cond (starts row k) (part row k) 0 ≡ 0 = ap (λ (b : Bool). cond b (part row k) 0) (ne_eqb k.from row.source (λ (x : k.from ≡ row.source). apart (sym x))) in
      spread-cons row rows k ∙ omega (arith, here, none rows k (omega (arith, counts row rows k.from)))
]

-- a commodity with one row of its source adds amount times distance
one : (rows : List Row) (k : Commodity) → count_by (λ (r : Potential). eqb r.node k.from) (potentials_of rows) ≡ 1 → spread rows k ≡ k.amount * distance_of (potentials_of rows) k
one [] k e = absurd (omega arith)
one (row ∷ rows) k e = elim (cases_eq row.source k.from) [
  | inl is ↦
      let there : eqb row.source k.from ≡ true = eq-eqb row.source k.from is in
      let first : cond {A = ℕ} (eqb row.source k.from) 1 0 ≡ 1 = ap (λ (b : Bool). cond {A = ℕ} b 1 0) there in
      let here : cond (starts row k) (part row k) 0 ≡ part row k = ap (λ (b : Bool). cond b (part row k) 0) (eq-eqb k.from row.source (sym is)) in
      let others : spread rows k ≡ 0 = none rows k (omega (arith, counts row rows k.from)) in
      let found : find (λ (r : Potential). eqb r.node k.from) (potentials_of (row ∷ rows)) ≡ Some (potential_of row) = rw there refl in
      let far : part row k ≡ k.amount * distance_of (potentials_of (row ∷ rows)) k
      = ap (λ (v : ℕ). k.amount * (get_or row.values.items k.to 0 - get_or row.values.items v 0)) is ∙ ap (λ (n : ℕ). k.amount * n) (sym (distance-by (potentials_of (row ∷ rows)) k (potential_of row) found)) in
      omega (arith, spread-cons row rows k, here, others) ∙ far
  | inr apart ↦
      let there : eqb row.source k.from ≡ false = ne_eqb row.source k.from apart in
      let first : cond {A = ℕ} (eqb row.source k.from) 1 0 ≡ 0 = ap (λ (b : Bool). cond {A = ℕ} b 1 0) there in
      let here : cond (starts row k) (part row k) 0 ≡ 0 = ap (λ (b : Bool). cond b (part row k) 0) (ne_eqb k.from row.source (λ (x : k.from ≡ row.source). apart (sym x))) in
      let rest = one rows k (omega (arith, counts row rows k.from)) in
      let same : distance_of (potentials_of (row ∷ rows)) k ≡ distance_of (potentials_of rows) k = rw there refl in
      omega (arith, spread-cons row rows k, here) ∙ (rest ∙ ap (λ (n : ℕ). k.amount * n) (sym same))
]

pub weighed : (net : Network) (rows : List Row) (P : ℕ → ℕ → ℕ → Type 0) → IsNetwork net → demands_of rows ≡ demands_in net → All (IsFilledWith net.nodes P) rows → AreWeighted net rows
weighed net rows P n demands filled =
    let cs = net.commodities in
    let each : All (λ (row : Row). row.weighted ≡ sum_by (part row) (filter (starts row) cs)) rows
    = λ i d l.
    let row = get_or rows i d in
    (filled i d l).weighted ∙ (ap (weighted_from row.source row.values.items) (targets-in net rows demands i d l)
    ∙ sum-map (λ (t : Target). t.amount * (get_or row.values.items t.to 0 - get_or row.values.items row.source 0)) (filter (starts row) cs)) in
    sum-same (λ (row : Row). row.weighted) (λ row. sum_by (part row) (filter (starts row) cs)) rows each
    ∙ (across rows cs ∙ (sum-same (spread rows) (λ k. k.amount * distance_of (potentials_of rows) k) cs (λ i d l. one rows (get_or cs i d) (one-row net rows i d n (sources-in net rows demands) l))
    ∙ sym (weighted_sum-map (λ (k : Commodity). k.amount) (distance_of (potentials_of rows)) cs)))

-- no more than the greatest distance times all amounts
times : (f : Commodity → ℕ) (cs : List Commodity) → All (λ k. f k ≤ MAX_LENGTH) cs → sum_by (λ k. k.amount * f k) cs ≤ sum_by (λ (k : Commodity). k.amount) cs * MAX_LENGTH
times f [] h = omega arith
times f (k ∷ ks) h =
    let here : k.amount * f k ≤ k.amount * MAX_LENGTH = let same : k.amount ≤ k.amount = omega arith in mul-le-mul same (h 0 k (omega arith)) in
    omega (arith, sum_by-cons (λ (c : Commodity). c.amount * f c) k ks, sum_by-cons (λ (c : Commodity). c.amount) k ks, here, times f ks (λ i d l. h (suc i) d (omega arith)))

pub weight-small : (net : Network) (rows : List Row) (P : ℕ → ℕ → ℕ → Type 0) → IsNetwork net → demands_of rows ≡ demands_in net → All (IsFilledWith net.nodes P) rows → weight_of rows ≤ 2 ^ 108
weight-small net rows P n demands filled =
    let cs = net.commodities in
    let ps = potentials_of rows in
    let Small : Potential → Type 0 = λ r. (length r.values ≡ net.nodes) × All (λ x. x ≤ MAX_LENGTH) r.values in
    let small : All Small ps = All-map Small potential_of rows (All-weaker (IsFilledWith net.nodes P) (λ row. Small (potential_of row)) (λ row f. (f.count, f.small)) rows filled) in
    let far : All (λ k. distance_of ps k ≤ MAX_LENGTH) cs
    = λ i d l.
    let k = get_or cs i d in
    let fits : IsCommodity net.nodes k = n.commodities i d l in
    let found = row-found Small ps k.from small (one-row net rows i d n (sources-in net rows demands) l) in
    omega (arith, distance-by ps k found.0 found.1, found.3.1 k.to 0 (omega (arith, fits.to, found.3.0))) in
    omega (arith, weighed net rows P n demands filled, weighted_sum-map (λ (k : Commodity). k.amount) (distance_of ps) cs, times (distance_of ps) cs far, n.total)
