-- What one turn more makes of loads and rows.
use Rattle.std.proofs.Common.{◌≡◌, ℕ, ◌+◌, ◌*◌, ◌<◌, ◌≤◌, Bool, true, false, nat_eq, cond, List, [], ◌∷◌, ◌++◌, length, get_or, sym, ap, ◌∙◌, subst, arith, length-append}
use Rattle.std.specs.Prelude.{All, replicate}
use Rattle.std.proofs.Math.Nat.{mul-le-mul_left}
use Rattle.std.proofs.lemmas.List.{length-replicate, get_or-replicate}
use Rattle.std.proofs.lemmas.List.Elements.{All-head, All-tail, All-append, All-cons, All-nil}
use Rattle.std.proofs.lemmas.List.FromFn.{fill_by_all, get_or-map-range_with_len, length-map-range_with_len}
use Rattle.std.proofs.lemmas.List.Sums.{sum_by-append, sum_by-cons}
use Rattle.flow_model.specs.Network.{Network}
use Rattle.flow_model.specs.Walk.{times}
use Rattle.flow_model.specs.Routing.{Row, carried, load_of}
use Rattle.flow_paths.specs.Evaluation.{loads_of}
use Rattle.mcf_limits.specs.declared.TheConstants.{MAX_LENGTH}
use Rattle.route_tally.specs.Tally.{IsCollected, TakesTurn}
use Rattle.route_tally.proofs.TurnSums.{same_carried}
use Rattle.hop_solve.specs.declared.turns.Routed.{Routed}
use Rattle.hop_solve.specs.Turns.{weight_of, IsOnce, IsRouted}

abbrev pub AreOnce : List Row → Type 0
AreOnce rows = All (λ row. IsOnce row.walk) rows

-- the weights of several rows
pub weight-append : (xs ys : List Row) → weight_of (xs ++ ys) ≡ weight_of xs + weight_of ys
weight-append xs ys = sum_by-append (λ (r : Row). r.weight) xs ys

pub times-one : (w n : ℕ) → n ≤ 1 → w * n ≤ w
times-one w n h = let p = mul-le-mul_left w h in omega arith

-- no cell is loaded with more than all weights
pub load-within : (rows : List Row) (c : ℕ) → AreOnce rows → load_of rows c ≤ weight_of rows
load-within [] c once = omega arith
load-within (r ∷ rows) c once =
    let x = sum_by-cons (λ (r : Row). r.weight * times c r.walk) r rows in
    let y = sum_by-cons (λ (r : Row). r.weight) r rows in
    let here = times-one r.weight (times c r.walk) (All-head (λ (row : Row). IsOnce row.walk) r rows once c) in
    let rest = load-within rows c (All-tail (λ (row : Row). IsOnce row.walk) r rows once) in
    omega (arith, x, y, here, rest)

cond-within : (b : Bool) (n : ℕ) → cond b n 0 ≤ n
cond-within true n = omega arith
cond-within false n = omega arith

-- no commodity is carried more than all weights
pub carried-within : (rows : List Row) (k : ℕ) → carried rows k ≤ weight_of rows
carried-within [] k = omega arith
carried-within (r ∷ rows) k =
    let x = sum_by-cons (λ (r : Row). cond (nat_eq r.commodity k) r.weight 0) r rows in
    let y = sum_by-cons (λ (r : Row). r.weight) r rows in
    omega (arith, x, y, cond-within (nat_eq r.commodity k) r.weight, carried-within rows k)

pub loads-length : (net : Network) (rows : List Row) → length (loads_of net rows) ≡ length net.cells
loads-length net rows = length-map-range_with_len (load_of rows) 0 (length net.cells)

pub load-at : (net : Network) (rows : List Row) (c d : ℕ) → c < length net.cells → get_or (loads_of net rows) c d ≡ load_of rows c
load-at net rows c d l = get_or-map-range_with_len (load_of rows) 0 (length net.cells) c c d l (omega arith)

-- as many loads as cells
pub size-of : (net : Network) (before : List Row) (r : Routed) → IsRouted net before r → length r.loads.items ≡ length net.cells
size-of net before r is = ap (λ (xs : List ℕ). length xs) is.loads ∙ loads-length net before

-- no load is above all weights
pub loads-within : (net : Network) (before : List Row) (r : Routed) (c : ℕ) → IsRouted net before r → c < length r.loads.items → get_or r.loads.items c 0 ≤ weight_of before
loads-within net before r c is l =
    let size = size-of net before r is in
    omega (arith, ap (λ (xs : List ℕ). get_or xs c 0) is.loads, load-at net before c 0 (omega arith), load-within before c is.once)

-- rows that are taken are at most the weights
pub tally-within : (net : Network) (before : List Row) (r : Routed) (k : ℕ) → IsRouted net before r → carried r.tally k ≤ weight_of before
tally-within net before r k is = omega (arith, same_carried before r.tally is.rows k, carried-within before k)

pub once-append : (xs ys : List Row) → AreOnce xs → AreOnce ys → AreOnce (xs ++ ys)
once-append xs ys a b = All-append (λ (row : Row). IsOnce row.walk) xs ys a b

pub once-one : (r : Row) → IsOnce r.walk → AreOnce (r ∷ [])
once-one r h = All-cons (λ (row : Row). IsOnce row.walk) r [] h (All-nil (λ (row : Row). IsOnce row.walk))

-- one row more
pub routed-more : (net : Network) (before : List Row) (old new : Routed) (row : Row) → IsRouted net before old → length new.loads.items ≡ length net.cells
    → ((c : ℕ) → c < length net.cells → get_or new.loads.items c 0 ≡ get_or old.loads.items c 0 + row.weight * times c row.walk) → TakesTurn old.tally new.tally row → length new.tally ≤ length old.tally + 1
    → IsOnce row.walk → new.table.net ≡ net → new.table.loads ≡ new.loads.items → IsRouted net (before ++ row ∷ []) new
routed-more net before old new row is size each takes most once net_is follows =
    let n = length net.cells in
    let more = before ++ row ∷ [] in
    record {
      loads = fill_by_all (load_of more) new.loads.items n 0 size (λ c inside. (
          let a = each c inside in
          let b = ap (λ (xs : List ℕ). get_or xs c 0) is.loads ∙ load-at net before c 0 inside in
          let s = sum_by-append (λ (r : Row). r.weight * times c r.walk) before (row ∷ []) in
          let t = sum_by-cons (λ (r : Row). r.weight * times c r.walk) row [] in
          omega (arith, a, b, s, t)
          ));
      net_is = net_is;
      follows = follows;
      rows = takes before is.rows;
      few = omega (arith, most, is.few, length-append before (row ∷ []));
      once = once-append before (row ∷ []) is.once (once-one row once);
    }

-- no row
pub routed-none : (net : Network) (r : Routed) (n : ℕ) → n ≡ length net.cells → r.loads.items ≡ replicate n 0 → r.table.net ≡ net → r.table.loads ≡ replicate (length net.cells) 0 → r.tally ≡ [] → IsCollected [] r.tally → IsRouted net [] r
routed-none net r n same zeros net_is loads none rows = record {
  loads = fill_by_all (load_of []) r.loads.items (length net.cells) 0 (ap (λ (xs : List ℕ). length xs) zeros ∙ length-replicate n 0 ∙ same)
      (λ k l. ap (λ (xs : List ℕ). get_or xs k 0) zeros ∙ get_or-replicate n k 0 0 (omega (arith, same, l)));
  net_is = net_is;
  follows = loads ∙ ap (λ (m : ℕ). replicate m 0) (sym same) ∙ sym zeros;
  rows = rows;
  few = let e = ap (λ (rs : List Row). length rs) none in omega (arith, e);
  once = λ k d l. absurd (omega arith);
}

-- the load of each cell has room for one turn more
pub room-along : (net : Network) (before : List Row) (r : Routed) (path : List ℕ) (amount c : ℕ) → IsRouted net before r → IsOnce path → weight_of before + amount ≤ MAX_LENGTH → c < length r.loads.items → get_or r.loads.items c 0 + amount * times c path ≤ MAX_LENGTH
room-along net before r path amount c is once small l = omega (arith, loads-within net before r c is l, times-one amount (times c path) (once c), small)

-- the same with another table of lengths
pub with-table : (net : Network) (before : List Row) (old new : Routed) → IsRouted net before old → new.loads ≡ old.loads → new.tally ≡ old.tally → new.table.net ≡ net → new.table.loads ≡ old.loads.items → IsRouted net before new
with-table net before old new is loads tally net_is follows = record {
  loads = ap (λ v. v.items) loads ∙ is.loads;
  net_is = net_is;
  follows = follows ∙ sym (ap (λ v. v.items) loads);
  rows = subst (IsCollected before) (sym tally) is.rows;
  few = subst (λ (rows : List Row). length rows ≤ length before) (sym tally) is.few;
  once = is.once;
}
