-- The loads after one phase more.
use Rattle.std.proofs.Common.{◌≡◌, ℕ, zero, suc, ◌+◌, ◌*◌, ◌<◌, ◌≤◌, nat_eq, cond, List, [], ◌∷◌, ◌++◌, length, get_or, take, Some, refl, sym, ap, ◌∙◌, subst, inl, inr, arith, eq-eqb, ne_eqb}
use Rattle.std.specs.Prelude.{All, map, flat_map, slice_get}
use Rattle.std.specs.List.{sum_by}
use Rattle.std.proofs.Math.Seq.{take-length}
use Rattle.std.proofs.lemmas.Bool.{cases_eq}
use Rattle.std.proofs.lemmas.List.{take-append-le, take_all, flat_map_more, length-append}
use Rattle.std.proofs.lemmas.List.FromFn.{fill_by_all, get_or-map-range_with_len}
use Rattle.std.proofs.lemmas.List.Sums.{sum_by-append, sum_by-cons}
use Rattle.flow_model.specs.declared.net.Commodity.{Commodity}
use Rattle.flow_model.specs.Network.{Network}
use Rattle.flow_model.specs.Walk.{times}
use Rattle.flow_model.specs.Least.{AreDifferent}
use Rattle.flow_model.specs.Routing.{Row, load_of}
use Rattle.flow_core.specs.Core.{total}
use Rattle.flow_core.specs.Phase.{Routed, amounts_along}
use Rattle.flow_paths.specs.Evaluation.{loads_of}
use Rattle.solver_run.specs.History.{loads_after}

-- with one phase more the loads after those before stay
pub loads-kept : (net : Network) (phases : List (List Routed)) (e : List Routed) (p : ℕ) → p ≤ length phases → loads_after net (phases ++ e ∷ []) p ≡ loads_after net phases p
loads-kept net phases e p h = ap (λ (xs : List (List Routed)). loads_of net (flat_map (amounts_along 0 net.commodities) xs)) (take-append-le p phases (e ∷ []) h)

-- the loads that have grown by the amounts of one phase more
pub loads-more : (net : Network) (phases : List (List Routed)) (e : List Routed) (old new : List ℕ) → old ≡ loads_after net phases (length phases) → length new ≡ length net.cells
    → ((c : ℕ) → c < length net.cells → get_or new c 0 ≡ get_or old c 0 + load_of (amounts_along 0 net.commodities e) c)
    → new ≡ loads_after net (phases ++ e ∷ []) (length phases + 1)
loads-more net phases e old new is size each =
    let f = amounts_along 0 net.commodities in
    let n = length net.cells in
    let whole : take (length phases + 1) (phases ++ e ∷ []) ≡ phases ++ e ∷ [] = take_all (length phases + 1) (phases ++ e ∷ []) (omega (arith, length-append phases (e ∷ []))) in
    let rows : flat_map f (phases ++ e ∷ []) ≡ flat_map f phases ++ f e = sym (flat_map_more f [] phases e) in
    let all = ap (λ (xs : List (List Routed)). flat_map f xs) whole ∙ rows in
    let before : old ≡ loads_of net (flat_map f phases) = is ∙ ap (λ (xs : List (List Routed)). loads_of net (flat_map f xs)) (take-length phases) in
    let now : new ≡ loads_of net (flat_map f phases ++ f e) = fill_by_all (load_of (flat_map f phases ++ f e)) new n 0 size (λ c inside. (
    let a = each c inside in
    let b : get_or old c 0 ≡ load_of (flat_map f phases) c = ap (λ (xs : List ℕ). get_or xs c 0) before ∙ get_or-map-range_with_len (load_of (flat_map f phases)) 0 n c c 0 inside (omega arith) in
    let s = sum_by-append (λ (r : Row). r.weight * times c r.walk) (flat_map f phases) (f e) in
    omega arith)) in
    now ∙ ap (loads_of net) (sym all)

any_default : (xs : List ℕ) (i d f : ℕ) → i < length xs → get_or xs i d ≡ get_or xs i f
any_default [] i d f l = absurd (omega arith)
any_default (x ∷ xs) zero d f l = refl
any_default (x ∷ xs) (suc i) d f l = any_default xs i d f (omega arith)

-- loads that have grown by at most t
pub loads-small : (old new : List ℕ) (more : ℕ → ℕ) (m t : ℕ) → length new ≡ length old → ((c : ℕ) → c < length old → get_or new c 0 ≡ get_or old c 0 + more c) → ((c : ℕ) → more c ≤ t)
    → All (λ (x : ℕ). x ≤ m * t) old → All (λ (x : ℕ). x ≤ (m + 1) * t) new
loads-small old new more m t same each few h = λ c d l.
    let inside : c < length old = omega arith in
    let a = each c inside in
    let b = few c in
    let before : get_or old c 0 ≤ m * t = h c 0 inside in
    let product : (m + 1) * t ≡ m * t + t = omega arith in
    subst (λ (x : ℕ). x ≤ (m + 1) * t) (any_default new c 0 d l) (omega arith)

-- where there was room for t, they are within the limit
pub loads-within : (old new : List ℕ) (more : ℕ → ℕ) (t limit : ℕ) → length new ≡ length old → ((c : ℕ) → c < length old → get_or new c 0 ≡ get_or old c 0 + more c) → ((c : ℕ) → more c ≤ t)
    → All (λ (x : ℕ). x + t ≤ limit) old → All (λ (x : ℕ). x ≤ limit) new
loads-within old new more t limit same each few h = λ c d l.
    let inside : c < length old = omega arith in
    let a = each c inside in
    let b = few c in
    let before : get_or old c 0 + t ≤ limit = h c 0 inside in
    subst (λ (x : ℕ). x ≤ limit) (any_default new c 0 d l) (omega arith)

-- a cell stands at most once in a path of different cells
pub once : (c : ℕ) (path : List ℕ) → AreDifferent path → times c path ≤ 1
once c [] h = omega arith
once c (x ∷ xs) h =
    let head = sum_by-cons (λ (y : ℕ). cond {A = ℕ} (nat_eq y c) 1 0) x xs in
    let rest = once c xs (λ i j less l. h (suc i) (suc j) (omega arith) (omega arith)) in
    elim (cases_eq x c) [
      | inl e ↦
          let one : cond {A = ℕ} (nat_eq x c) 1 0 ≡ 1 = rw (eq-eqb x c e) refl in
          let none = nowhere xs (λ j l is. h 0 (suc j) (omega arith) (omega arith) (e ∙ sym is)) in
          omega arith
      | inr n ↦
          let zero_here : cond {A = ℕ} (nat_eq x c) 1 0 ≡ 0 = rw (ne_eqb x c n) refl in
          omega arith
    ]
  where
    nowhere : (ys : List ℕ) → ((j : ℕ) → j < length ys → get_or ys j 0 ≡ c → ⊥) → times c ys ≡ 0
    nowhere [] g = refl
    nowhere (y ∷ ys) g =
        let head = sum_by-cons (λ (z : ℕ). cond {A = ℕ} (nat_eq z c) 1 0) y ys in
        let rest = nowhere ys (λ j l. g (suc j) (omega arith)) in
        let off : cond {A = ℕ} (nat_eq y c) 1 0 ≡ 0 = rw (ne_eqb y c (g 0 (omega arith))) refl in
        omega arith

-- along paths that have each cell at most once a phase adds at most all amounts
pub phase-adds : (cs : List Commodity) (entries : List Routed) (j c : ℕ) → ((k : ℕ) (r : Routed) → slice_get entries k ≡ Some r → times c r.path ≤ 1)
    → load_of (amounts_along j cs entries) c ≤ sum_by (λ (x : Commodity). x.amount) cs
phase-adds [] entries j c h = omega arith
phase-adds (x ∷ xs) [] j c h = omega arith
phase-adds (x ∷ xs) (e ∷ es) j c h =
    let head = sum_by-cons (λ (r : Row). r.weight * times c r.walk) (record { commodity = j; walk = e.path; weight = x.amount }) (amounts_along (j + 1) xs es) in
    let sum = sum_by-cons (λ (y : Commodity). y.amount) x xs in
    let rest = phase-adds xs es (j + 1) c (λ k r is. h (suc k) r is) in
    let few = at_most x.amount (times c e.path) (h 0 e refl) in
    omega arith
  where
    at_most : (a n : ℕ) → n ≤ 1 → a * n ≤ a
    at_most a zero l = omega arith
    at_most a (suc zero) l = omega arith
    at_most a (suc (suc n)) l = absurd (omega arith)

-- and the first cell of the first path is loaded
pub phase-loads : (cs : List Commodity) (entries : List Routed) (j c : ℕ) (path : List ℕ) (r : Routed) → 1 ≤ length cs → All (λ (x : Commodity). 1 ≤ x.amount) cs → slice_get entries 0 ≡ Some r → r.path ≡ c ∷ path
    → 1 ≤ load_of (amounts_along j cs entries) c
phase-loads [] entries j c path r some h at is = absurd (omega arith)
phase-loads (x ∷ xs) [] j c path r some h at is = cc
phase-loads (x ∷ xs) (e ∷ es) j c path r some h at is =
    let same : e ≡ r = (let z : Some e ≡ Some r = at in cc) in
    let walk : e.path ≡ c ∷ path = ap (λ (y : Routed). y.path) same ∙ is in
    let head = sum_by-cons (λ (y : Row). y.weight * times c y.walk) (record { commodity = j; walk = e.path; weight = x.amount }) (amounts_along (j + 1) xs es) in
    let first = sum_by-cons (λ (y : ℕ). cond {A = ℕ} (nat_eq y c) 1 0) c path in
    let one : cond {A = ℕ} (nat_eq c c) 1 0 ≡ 1 = rw (eq-eqb c c refl) refl in
    let there : 1 ≤ times c e.path = subst (λ (w : List ℕ). 1 ≤ times c w) (sym walk) (omega arith) in
    let amount : 1 ≤ x.amount = h 0 x (omega arith) in
    let product = at_least x.amount (times c e.path) amount there in
    omega arith
  where
    at_least : (a n : ℕ) → 1 ≤ a → 1 ≤ n → 1 ≤ a * n
    at_least a zero p q = absurd (omega arith)
    at_least a (suc n) p q = grind arith

-- the sum that the core speaks of
pub total-amounts : (cs : List Commodity) → total (λ (a : ℕ). a) (map (λ (x : Commodity). x.amount) cs) ≡ sum_by (λ (x : Commodity). x.amount) cs
total-amounts [] = refl
total-amounts (x ∷ xs) =
    let sum = sum_by-cons (λ (y : Commodity). y.amount) x xs in
    let rest = total-amounts xs in
    omega arith

-- there is room for all amounts above small loads
pub room-above : (loads : List ℕ) (most more limit : ℕ) → All (λ (x : ℕ). x ≤ most) loads → most + more ≤ limit → (c : ℕ) → get_or loads c 0 + more ≤ limit
room-above [] most more limit h fits c = omega arith
room-above (x ∷ xs) most more limit h fits zero = let a : x ≤ most = h 0 0 (omega arith) in omega arith
room-above (x ∷ xs) most more limit h fits (suc c) = room-above xs most more limit (λ j d l. h (suc j) d (omega arith)) fits c
