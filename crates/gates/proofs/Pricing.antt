-- Prices from gates and rows of distances.
use Rattle.std.proofs.Common.{◌≡◌, ◌≢◌, ◌⊎◌, ℕ, ◌+◌, ◌<◌, ◌≤◌, min, List, [], ◌∷◌, ◌++◌, length, get_or, Option, Some, None, inl, inr, ap, sym, subst, ◌∙◌, arith, refl}
use Rattle.std.specs.Prelude.{slice_get}
use Rattle.std.proofs.lemmas.Bool.{cases_lt}
use Rattle.std.proofs.lemmas.List.{get_or_append_left, get_or-append-add}
use Rattle.std.proofs.lemmas.List.Sums.{sum_by-cons}
use Rattle.std.proofs.lemmas.Option.{slice_get_within, get_or_from_slice_get}
use Rattle.flow_model.specs.declared.net.Cell.{Cell}
use Rattle.flow_model.specs.declared.net.Commodity.{Commodity}
use Rattle.flow_model.specs.Network.{Network}
use Rattle.flow_model.specs.Walk.{PositiveWalk}
use Rattle.flow_model.specs.Bound.{walk_length}
use Rattle.flow_model.specs.Least.{IsLeast, far_or}
use Rattle.flow_model.proofs.Duality.{no_cell, no_commodity}
use Rattle.gates.specs.Gates.{gate, AreGates, IsPrice}
use Rattle.gates.specs.Prices.{lesser_of, IsPriceOf, IsLeastBelow, IsLeastIfAny}

-- behind the lengths of the cells others don't count
pub same_length : (cells : List Cell) (lengths others walk : List ℕ) (u v : ℕ) → length lengths ≡ length cells → PositiveWalk cells u v walk → walk_length (lengths ++ others) walk ≡ walk_length lengths walk
same_length cells lengths others [] u v e w = refl
same_length cells lengths others (c ∷ walk) u v e (x, (cell, at, positive, goes), w) =
    let inside = slice_get_within cells c cell at in
    let here : get_or (lengths ++ others) c 0 ≡ get_or lengths c 0 = get_or_append_left lengths others 0 c (omega arith) in
    let rest = same_length cells lengths others walk x v e w in
    let left = sum_by-cons (λ d. get_or (lengths ++ others) d 0) c walk in
    let right = sum_by-cons (λ d. get_or lengths d 0) c walk in
    omega arith

pub same_commodity : (net : Network) (k : ℕ) (a b : Commodity) → slice_get net.commodities k ≡ Some a → slice_get net.commodities k ≡ Some b → a ≡ b
same_commodity net k a b ha hb = sym (get_or_from_slice_get net.commodities k a no_commodity ha) ∙ get_or_from_slice_get net.commodities k b no_commodity hb

-- without a gate's capacity there is no walk, so no price
pub none_closed : (net : Network) (gates : List Cell) (lengths : List ℕ) (k : ℕ) (commodity : Commodity) → AreGates net gates → slice_get net.commodities k ≡ Some commodity → 1 ≤ commodity.amount
    → (get_or gates k no_cell).cap ≡ 0 → (other : ℕ) → IsPrice net lengths k other → ⊥
none_closed net gates lengths k commodity are at some closed other p =
    let same : p.commodity ≡ commodity = same_commodity net k p.commodity commodity p.at at in
    let walk = p.least.0 in
    let joined : slice_get gates k ≡ Some (gate p.commodity p.commodity.amount) = are.joined k p.commodity p.at (walk.0, walk.1) in
    let is = get_or_from_slice_get gates k (gate p.commodity p.commodity.amount) no_cell joined in
    let cap : (get_or gates k no_cell).cap ≡ p.commodity.amount = ap (λ (x : Cell). x.cap) is in
    let amount : p.commodity.amount ≡ commodity.amount = ap (λ (x : Commodity). x.amount) same in
    omega arith

-- else the distance and the gate's length come to it
pub priced : (net : Network) (gates : List Cell) (lengths others : List ℕ) (k potential price : ℕ) (commodity : Commodity) (d : Option ℕ) → AreGates net gates → slice_get net.commodities k ≡ Some commodity
    → length lengths ≡ length net.cells → (get_or gates k no_cell).cap ≢ 0 → IsLeast net.cells lengths commodity.from commodity.to d → potential ≡ far_or d → price ≡ potential + get_or others k 0
    → IsPriceOf net (lengths ++ others) k (Some price)
priced net gates lengths others k potential price commodity None are at long wide none far sum =
    let shut = are.cut_off k commodity at none in
    absurd (wide (ap (λ (x : Cell). x.cap) (get_or_from_slice_get gates k (gate commodity 0) no_cell shut)))
priced net gates lengths others k potential price commodity (Some d) are at long wide least far sum =
    let all = lengths ++ others in
    let behind : get_or all (length net.cells + k) 0 ≡ get_or others k 0 = ap (λ (n : ℕ). get_or all (n + k) 0) (sym long) ∙ get_or-append-add lengths others k 0 in
    let first : IsPrice net all k price = record {
      commodity = commodity;
      at = at;
      distance = d;
      least = ((least.0.0, least.0.1, same_length net.cells lengths others least.0.0 commodity.from commodity.to long least.0.1 ∙ least.0.2), λ walk w. omega (arith, same_length net.cells lengths others walk commodity.from commodity.to long w, least.1 walk w));
      sum = omega (arith, behind, sum, far);
    } in
    (first, λ other p. below other p)
  where
    below : (other : ℕ) → IsPrice net (lengths ++ others) k other → price ≤ other
    below other p =
        let same : p.commodity ≡ commodity = same_commodity net k p.commodity commodity p.at at in
        let walk = p.least.0 in
        let w : PositiveWalk net.cells commodity.from commodity.to walk.0 = subst (λ (x : Commodity). PositiveWalk net.cells x.from x.to walk.0) same walk.1 in
        let behind : get_or (lengths ++ others) (length net.cells + k) 0 ≡ get_or others k 0 = ap (λ (n : ℕ). get_or (lengths ++ others) (n + k) 0) (sym long) ∙ get_or-append-add lengths others k 0 in
        omega (arith, p.sum, behind, sum, far, least.1 walk.0 w, same_length net.cells lengths others walk.0 commodity.from commodity.to long w, walk.2)

-- one commodity more
pub least-more : (net : Network) (lengths : List ℕ) (n : ℕ) (best this : Option ℕ) → IsLeastBelow net lengths n best → IsPriceOf net lengths n this → IsLeastBelow net lengths (n + 1) (lesser_of best this)
least-more net lengths n None None before here = λ k other lt p. elim (cases_lt k n) [
  | inl less ↦ before k other less p
  | inr more ↦ here other (subst (λ (j : ℕ). IsPrice net lengths j other) (at_end k n lt more) p)
]
  where
    at_end : (k n : ℕ) → k < n + 1 → n ≤ k → k ≡ n
    at_end k n a b = omega arith
least-more net lengths n None (Some b) before here = (
  (n, omega arith, here.0),
  λ k other lt p. elim (cases_lt k n) [
    | inl less ↦ absurd (before k other less p)
    | inr more ↦ here.1 other (subst (λ (j : ℕ). IsPrice net lengths j other) (at_end k n lt more) p)
  ],
)
  where
    at_end : (k n : ℕ) → k < n + 1 → n ≤ k → k ≡ n
    at_end k n a b = omega arith
least-more net lengths n (Some a) None before here = (
  (before.0.0, omega (arith, before.0.1), before.0.2),
  λ k other lt p. elim (cases_lt k n) [
    | inl less ↦ before.1 k other less p
    | inr more ↦ absurd (here other (subst (λ (j : ℕ). IsPrice net lengths j other) (at_end k n lt more) p))
  ],
)
  where
    at_end : (k n : ℕ) → k < n + 1 → n ≤ k → k ≡ n
    at_end k n a b = omega arith
least-more net lengths n (Some a) (Some b) before here = (
  either (cases_lt a b),
  λ k other lt p. elim (cases_lt k n) [
    | inl less ↦ omega (arith, before.1 k other less p)
    | inr more ↦ omega (arith, here.1 other (subst (λ (j : ℕ). IsPrice net lengths j other) (at_end k n lt more) p))
  ],
)
  where
    at_end : (k n : ℕ) → k < n + 1 → n ≤ k → k ≡ n
    at_end k n a b = omega arith

    either : (a < b) ⊎ (b ≤ a) → (k : ℕ) × (k < n + 1) × IsPrice net lengths k (min a b)
    either (inl l) = let is : a ≡ min a b = omega arith in (before.0.0, omega (arith, before.0.1), subst (λ (x : ℕ). IsPrice net lengths before.0.0 x) is before.0.2)
    either (inr l) = let is : b ≡ min a b = omega arith in (n, omega arith, subst (λ (x : ℕ). IsPrice net lengths n x) is here.0)

pub least-done : (net : Network) (lengths : List ℕ) (n : ℕ) (best : Option ℕ) → length net.commodities ≤ n → IsLeastBelow net lengths n best → IsLeastIfAny net lengths best
least-done net lengths n None all is = λ k other p. is k other (let inside = slice_get_within net.commodities k p.commodity p.at in omega arith) p
least-done net lengths n (Some a) all is = record {
  some = (is.0.0, is.0.2);
  least = λ k other p. is.1 k other (let inside = slice_get_within net.commodities k p.commodity p.at in omega arith) p;
}
