-- Bounds on weights and loads of rows that are paths.
use Rattle.std.proofs.Common.{◌≡◌, ◌≢◌, inl, inr, ℕ, suc, ◌+◌, ◌*◌, ◌<◌, ◌≤◌, List, [], ◌∷◌, cond, eqb, length, get_or, refl, sym, subst, ◌∙◌, arith}
use Rattle.std.specs.List.{sum_by}
use Rattle.std.proofs.Math.Nat.{mul-le-mul, mul-le-mul_left}
use Rattle.std.proofs.lemmas.Bool.{cases_eq, eq-eqb, ne_eqb}
use Rattle.std.proofs.lemmas.List.Sums.{sum_by-cons, get_or-le-sum_by}
use Rattle.std.proofs.lemmas.Option.{slice_get-get_or}
use Rattle.flow_model.specs.declared.net.Commodity.{Commodity}
use Rattle.flow_model.specs.Network.{Network, IsNetwork}
use Rattle.flow_model.specs.Walk.{times}
use Rattle.flow_model.specs.Least.{AreDifferent}
use Rattle.flow_model.specs.Routing.{Row, load_of}
use Rattle.flow_model.proofs.Duality.{no_commodity}
use Rattle.flow_paths.specs.PathRows.{row_at, no_row}
use Rattle.solver_run.specs.declared.options.Entry.{Entry}
use Rattle.solver_run.specs.History.{times_named, AreRowsOf, NamesRows, IsWeighed}
use Rattle.solver_run.proofs.Exchange.{no_entry}
use Rattle.solver_run.proofs.Rows.{PhasesHavePaths, amount_at, path-inside, rows-paths, rows-weigh, weight-is}

times-cons : (c x : ℕ) (xs : List ℕ) → times c (x ∷ xs) ≡ cond {A = ℕ} (eqb x c) 1 0 + times c xs
times-cons c x xs = sum_by-cons (λ (y : ℕ). cond {A = ℕ} (eqb y c) 1 0) x xs

-- a cell that no place has
times-none : (c : ℕ) (walk : List ℕ) → ((j : ℕ) → j < length walk → get_or walk j 0 ≢ c) → times c walk ≡ 0
times-none c [] h = refl
times-none c (x ∷ walk) h =
    let rest = times-none c walk (λ j l. h (suc j) (omega arith)) in
    let n : x ≢ c = h 0 (omega arith) in
    times-cons c x walk ∙ rw (ne_eqb x c n) (omega arith)

-- in a walk of different cells no cell comes twice
pub times-once : (c : ℕ) (walk : List ℕ) → AreDifferent walk → times c walk ≤ 1
times-once c [] d = omega arith
times-once c (x ∷ walk) d = elim (cases_eq x c) [
  | inl e ↦
      let rest = times-none c walk (λ j l same. d 0 (suc j) (omega arith) (omega arith) (e ∙ sym same)) in
      rw (times-cons c x walk, eq-eqb x c e) (omega arith)
  | inr n ↦
      let rest = times-once c walk (λ i j l m. d (suc i) (suc j) (omega arith) (omega arith)) in
      rw (times-cons c x walk, ne_eqb x c n) (omega arith)
]

times-first : (c : ℕ) (walk : List ℕ) → 1 ≤ times c (c ∷ walk)
times-first c walk = rw (times-cons c c walk, eq-eqb c c refl) (omega arith)

-- the load is no more than all weights
pub load-below : (rows : List Row) (c : ℕ) → ((n : ℕ) → n < length rows → times c (row_at rows n).walk ≤ 1) → load_of rows c ≤ sum_by (λ (r : Row). r.weight) rows
load-below [] c h = omega arith
load-below (r ∷ rows) c h =
    let rest = load-below rows c (λ n l. h (suc n) (omega arith)) in
    let one : r.weight * times c r.walk ≤ r.weight * 1 = mul-le-mul_left r.weight (h 0 (omega arith)) in
    omega (arith, sum_by-cons (λ (s : Row). s.weight * times c s.walk) r rows, sum_by-cons (λ (s : Row). s.weight) r rows)

pub load-limit : (net : Network) (history : List (List Entry)) (rows : List Row) (c : ℕ) → AreRowsOf net history rows → PhasesHavePaths net rows history
    → load_of rows c ≤ length history * sum_by (λ (k : Commodity). k.amount) net.commodities
load-limit net history rows c a h = omega (arith, load-below rows c (λ n l. times-once c (row_at rows n).walk (rows-paths net history rows a h n l).different), rows-weigh net history rows a h)

-- a row has a weight
weight-some : (net : Network) (history : List (List Entry)) (rows : List Row) (n : ℕ) → IsNetwork net → AreRowsOf net history rows → PhasesHavePaths net rows history → n < length rows → 1 ≤ (row_at rows n).weight
weight-some net history rows n net_is a h l =
    let row = row_at rows n in
    let inside = path-inside net row.commodity row.walk (rows-paths net history rows a h n l) in
    let weighed : IsWeighed net history n row = a.weighed n row (slice_get-get_or rows n no_row l) in
    let product : 1 * 1 ≤ amount_at net row.commodity * times_named history n = mul-le-mul (net_is.commodities row.commodity no_commodity inside).positive weighed.named in
    omega (arith, weight-is net history rows n row.commodity a l inside refl)

first-cell : (walk : List ℕ) → walk ≢ [] → (c : ℕ) × (1 ≤ times c walk) × (get_or walk 0 0 ≡ c) × (0 < length walk)
first-cell [] n = absurd (n refl)
first-cell (c ∷ walk) n = (c, times-first c walk, refl, omega arith)

-- where there is a phase some cell has a load
pub some-load : (net : Network) (history : List (List Entry)) (rows : List Row) → IsNetwork net → AreRowsOf net history rows → PhasesHavePaths net rows history → 1 ≤ length history
    → (c : ℕ) × (c < length net.cells) × (1 ≤ load_of rows c)
some-load net history rows net_is a h some =
    let es = get_or history 0 [] in
    let names : NamesRows net rows es = a.entries 0 [] (omega arith) in
    let e = get_or es 0 no_entry in
    let inside : 0 < length es = omega (arith, names.count, net_is.some) in
    let l = (names.each 0 e (slice_get-get_or es 0 no_entry inside)).0 in
    let row = row_at rows e.row in
    let path = rows-paths net history rows a h e.row l in
    let first = first-cell row.walk path.some in
    let c = first.0 in
    let part : row.weight * times c row.walk ≤ load_of rows c = get_or-le-sum_by (λ (r : Row). r.weight * times c r.walk) rows e.row no_row l in
    let product : 1 * 1 ≤ row.weight * times c row.walk = mul-le-mul (weight-some net history rows e.row net_is a h l) first.1 in
    (c, subst (λ (i : ℕ). i < length net.cells) first.2 (path.cells 0 0 first.3), omega arith)
