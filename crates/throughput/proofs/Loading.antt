-- What is loaded, with one row more.
use Rattle.std.proofs.Common.{◌≡◌, ℕ, zero, suc, ◌+◌, ◌*◌, ◌<◌, ◌≤◌, Bool, true, false, eqb, cond, List, [], ◌∷◌, ◌++◌, length, get_or, set, length-set, inl, inr, sym, ap, subst, ◌∙◌, arith, refl, eq-eqb, ne_eqb}
use Rattle.std.specs.Prelude.{All, replicate}
use Rattle.std.proofs.Math.Nat.{mul-le-mul_left}
use Rattle.std.proofs.lemmas.Bool.{cases_eq}
use Rattle.std.proofs.lemmas.List.{get_or-set_same, get_or-set_other, length-replicate, get_or-replicate}
use Rattle.std.proofs.lemmas.List.FromFn.{fill_by_all, get_or-map-range_with_len, length-map-range_with_len}
use Rattle.std.proofs.lemmas.List.Sums.{sum_by-append, sum_by-cons}
use Rattle.std.proofs.lemmas.List.Elements.{All-append, All-cons, All-nil}
use Rattle.flow_model.specs.Network.{Network}
use Rattle.flow_model.specs.Routing.{Row, carried, load_of}
use Rattle.flow_model.specs.Walk.{times}
use Rattle.flow_model.specs.Least.{AreDifferent}
use Rattle.route_tally.specs.Tally.{IsCollected, TakesTurn}
use Rattle.route_tally.proofs.TurnSums.{same_carried}
use Rattle.solver_run.proofs.Weights.{times-once, load-below}
use Rattle.throughput.specs.declared.loaded.Loaded.{Loaded}
use Rattle.throughput.specs.Partial.{total_of}
use Rattle.throughput.specs.Loaded.{IsLoaded, HasLoaded}

-- sums with one row more

pub load-more : (rows : List Row) (row : Row) (c : ℕ) → load_of (rows ++ row ∷ []) c ≡ load_of rows c + row.weight * times c row.walk
load-more rows row c =
    let f : Row → ℕ = λ r. r.weight * times c r.walk in
    sum_by-append f rows (row ∷ []) ∙ omega (arith, sum_by-cons f row [])

pub carried-more : (rows : List Row) (row : Row) (k : ℕ) → carried (rows ++ row ∷ []) k ≡ carried rows k + cond {A = ℕ} (eqb row.commodity k) row.weight 0
carried-more rows row k =
    let f : Row → ℕ = λ r. cond {A = ℕ} (eqb r.commodity k) r.weight 0 in
    sum_by-append f rows (row ∷ []) ∙ omega (arith, sum_by-cons f row [])

pub total-more : (rows : List Row) (row : Row) → total_of (rows ++ row ∷ []) ≡ total_of rows + row.weight
total-more rows row =
    let f : Row → ℕ = λ r. r.weight in
    sum_by-append f rows (row ∷ []) ∙ omega (arith, sum_by-cons f row [])

-- sums within the total

pub carried-total : (rows : List Row) (k : ℕ) → carried rows k ≤ total_of rows
carried-total [] k = omega arith
carried-total (r ∷ rows) k =
    let rest = carried-total rows k in
    let here : cond {A = ℕ} (eqb r.commodity k) r.weight 0 ≤ r.weight = either (eqb r.commodity k) in
    omega (arith, sum_by-cons (λ (s : Row). cond {A = ℕ} (eqb s.commodity k) s.weight 0) r rows, sum_by-cons (λ (s : Row). s.weight) r rows)
  where
    either : (b : Bool) → cond {A = ℕ} b r.weight 0 ≤ r.weight
    either true = omega arith
    either false = omega arith

pub load-total : (rows : List Row) (c : ℕ) → All (λ (row : Row). AreDifferent row.walk) rows → load_of rows c ≤ total_of rows
load-total rows c apart = load-below rows c (λ n l. times-once c _ (apart n _ l))

-- what is loaded is within the total

pub cell-load : (net : Network) (rows : List Row) (s : Loaded) (c : ℕ) → IsLoaded net rows s → c < length net.cells → get_or s.cells.items c 0 ≡ load_of rows c
cell-load net rows s c is l = ap (λ (xs : List ℕ). get_or xs c 0) is.cells ∙ get_or-map-range_with_len (load_of rows) 0 (length net.cells) c c 0 l (omega arith)

pub gate-load : (net : Network) (rows : List Row) (s : Loaded) (k : ℕ) → IsLoaded net rows s → k < length net.commodities → get_or s.gates.items k 0 ≡ carried rows k
gate-load net rows s k is l = ap (λ (xs : List ℕ). get_or xs k 0) is.gates ∙ get_or-map-range_with_len (carried rows) 0 (length net.commodities) k k 0 l (omega arith)

pub cells-long : (net : Network) (rows : List Row) (s : Loaded) → IsLoaded net rows s → length s.cells.items ≡ length net.cells
cells-long net rows s is = ap (λ (xs : List ℕ). length xs) is.cells ∙ length-map-range_with_len (load_of rows) 0 (length net.cells)

pub gates-long : (net : Network) (rows : List Row) (s : Loaded) → IsLoaded net rows s → length s.gates.items ≡ length net.commodities
gates-long net rows s is = ap (λ (xs : List ℕ). length xs) is.gates ∙ length-map-range_with_len (carried rows) 0 (length net.commodities)

-- a fact of each place is one of all
each-small : (xs : List ℕ) (m : ℕ) → ((c : ℕ) → c < length xs → get_or xs c 0 ≤ m) → All (λ (x : ℕ). x ≤ m) xs
each-small xs m h = λ c d l. subst (λ (x : ℕ). x ≤ m) (any_default xs c d l) (h c l)
  where
    any_default : (ys : List ℕ) (i d : ℕ) → i < length ys → get_or ys i 0 ≡ get_or ys i d
    any_default [] i d l = absurd (omega arith)
    any_default (x ∷ ys) zero d l = refl
    any_default (x ∷ ys) (suc i) d l = any_default ys i d (omega arith)

pub cells-small : (net : Network) (s : Loaded) (m : ℕ) → HasLoaded net s → s.total ≤ m → All (λ (x : ℕ). x ≤ m) s.cells.items
cells-small net s m has few = each-small s.cells.items m (λ c l. (let is = has.1 in omega (arith, cell-load net has.0 s c is (omega (arith, cells-long net has.0 s is)), load-total has.0 c is.paths, is.total)))

pub gates-small : (net : Network) (s : Loaded) (m : ℕ) → HasLoaded net s → s.total ≤ m → All (λ (x : ℕ). x ≤ m) s.gates.items
gates-small net s m has few = each-small s.gates.items m (λ k l. (let is = has.1 in omega (arith, gate-load net has.0 s k is (omega (arith, gates-long net has.0 s is)), carried-total has.0 k, is.total)))

-- there is room for an amount along a path of different cells
pub path-room : (net : Network) (s : Loaded) (path : List ℕ) (a m c : ℕ) → HasLoaded net s → AreDifferent path → s.total + a ≤ m → get_or s.cells.items c 0 + a * times c path ≤ m
path-room net s path a m c has apart fits =
    let once : a * times c path ≤ a * 1 = mul-le-mul_left a (times-once c path apart) in
    let low : get_or s.cells.items c 0 ≤ s.total = within s.cells.items c (cells-small net s s.total has (omega arith)) in
    omega arith
  where
    within : (xs : List ℕ) (i : ℕ) → All (λ (x : ℕ). x ≤ s.total) xs → get_or xs i 0 ≤ s.total
    within [] i h = omega arith
    within (x ∷ xs) zero h = h 0 0 (omega arith)
    within (x ∷ xs) (suc i) h = within xs i (λ j d l. h (suc j) d (omega arith))

-- so loads stay small
pub grown-small : (net : Network) (s : Loaded) (xs path : List ℕ) (a m : ℕ) → HasLoaded net s → AreDifferent path → s.total + a ≤ m → ((c : ℕ) → get_or xs c 0 ≡ get_or s.cells.items c 0 + a * times c path) → All (λ (x : ℕ). x ≤ m) xs
grown-small net s xs path a m has apart fits each = each-small xs m (λ c l. omega (arith, each c, path-room net s path a m c has apart fits))

-- so has the tally
pub tally-room : (net : Network) (s : Loaded) (k a m : ℕ) → HasLoaded net s → s.total + a ≤ m → carried s.tally k + a ≤ m
tally-room net s k a m has fits = let is = has.1 in omega (arith, same_carried has.0 s.tally is.tally k, carried-total has.0 k, is.total)

-- one row more
pub loaded-more : (net : Network) (rows : List Row) (old new : Loaded) (row : Row) → IsLoaded net rows old → row.commodity < length net.commodities → AreDifferent row.walk
    → length new.cells.items ≡ length old.cells.items → ((c : ℕ) → get_or new.cells.items c 0 ≡ get_or old.cells.items c 0 + row.weight * times c row.walk)
    → new.gates.items ≡ set old.gates.items row.commodity (get_or old.gates.items row.commodity 0 + row.weight) → new.total ≡ old.total + row.weight → TakesTurn old.tally new.tally row
    → IsLoaded net (rows ++ row ∷ []) new
loaded-more net rows old new row is inside apart long cells gates total tally = record {
  cells = fill_by_all (load_of (rows ++ row ∷ [])) new.cells.items (length net.cells) 0 (long ∙ cells-long net rows old is)
      (λ c l. cells c ∙ ap (λ (x : ℕ). x + row.weight * times c row.walk) (cell-load net rows old c is l) ∙ sym (load-more rows row c));
  gates = fill_by_all (carried (rows ++ row ∷ [])) new.gates.items (length net.commodities) 0
      (ap (λ (xs : List ℕ). length xs) gates ∙ length-set old.gates.items row.commodity (get_or old.gates.items row.commodity 0 + row.weight) ∙ gates-long net rows old is)
      (λ k l. ap (λ (xs : List ℕ). get_or xs k 0) gates ∙ at k l ∙ sym (carried-more rows row k));
  total = total ∙ ap (λ (x : ℕ). x + row.weight) is.total ∙ sym (total-more rows row);
  tally = tally rows is.tally;
  paths = All-append (λ (r : Row). AreDifferent r.walk) rows (row ∷ []) is.paths (All-cons (λ (r : Row). AreDifferent r.walk) row [] apart (All-nil (λ (r : Row). AreDifferent r.walk)));
}
  where
    at : (k : ℕ) → k < length net.commodities → get_or (set old.gates.items row.commodity (get_or old.gates.items row.commodity 0 + row.weight)) k 0 ≡ carried rows k + cond {A = ℕ} (eqb row.commodity k) row.weight 0
    at k l = elim (cases_eq row.commodity k) as (λ _. get_or (set old.gates.items row.commodity (get_or old.gates.items row.commodity 0 + row.weight)) k 0 ≡ carried rows k + cond {A = ℕ} (eqb row.commodity k) row.weight 0) [
      | inl e ↦ rw (eq-eqb row.commodity k e)
          (subst (λ (j : ℕ). get_or (set old.gates.items row.commodity (get_or old.gates.items row.commodity 0 + row.weight)) j 0 ≡ carried rows j + row.weight) e
          (get_or-set_same old.gates.items row.commodity (get_or old.gates.items row.commodity 0 + row.weight) 0 (omega (arith, gates-long net rows old is))
          ∙ ap (λ (x : ℕ). x + row.weight) (gate-load net rows old row.commodity is inside)))
      | inr n ↦ rw (ne_eqb row.commodity k n)
          (get_or-set_other old.gates.items row.commodity k (get_or old.gates.items row.commodity 0 + row.weight) 0 (λ e. n (sym e)) ∙ (gate-load net rows old k is l ∙ omega arith))
    ]

-- nothing
pub nothing-loaded : (net : Network) (s : Loaded) (n k : ℕ) → n ≡ length net.cells → k ≡ length net.commodities → s.cells.items ≡ replicate n 0 → s.gates.items ≡ replicate k 0 → s.total ≡ 0 → IsCollected [] s.tally → IsLoaded net [] s
nothing-loaded net s n k en ek cells gates total tally = record {
  cells = cells ∙ fill_by_all (load_of []) (replicate n 0) (length net.cells) 0 (length-replicate n 0 ∙ en) (λ c l. get_or-replicate n c 0 0 (omega arith));
  gates = gates ∙ fill_by_all (carried []) (replicate k 0) (length net.commodities) 0 (length-replicate k 0 ∙ ek) (λ c l. get_or-replicate k c 0 0 (omega arith));
  total = total;
  tally = tally;
  paths = All-nil (λ (r : Row). AreDifferent r.walk);
}
