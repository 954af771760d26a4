-- A threshold bounds the total of every partial routing.
use Rattle.std.proofs.Common.{◌≡◌, ℕ, ◌+◌, ◌-◌, ◌*◌, ◌<◌, ◌≤◌, List, [], ◌∷◌, length, map, get_or, All, sym, ap, ◌∙◌, arith, refl}
use Rattle.std.specs.List.{sum_by}
use Rattle.std.proofs.Math.Nat.{mul-le-mul_left}
use Rattle.std.proofs.lemmas.List.{get_or-map, length-map}
use Rattle.std.proofs.lemmas.List.Sums.{sum_by-cons}
use Rattle.std.proofs.lemmas.List.Elements.{All-head, All-tail}
use Rattle.std.proofs.lemmas.Option.{slice_get-get_or, slice_get_within}
use Rattle.flow_model.specs.Network.{Network}
use Rattle.flow_model.specs.Routing.{Row, carried, load_of, Joins}
use Rattle.flow_model.specs.Bound.{walk_length, weighted_sum, volume, weighted_distance, IsBelowItsRows}
use Rattle.flow_model.proofs.Duality.{dot, dot-le, dot-carried, dot-load_of, dot-weighted_sum, no_cell, no_commodity}
use Rattle.throughput.specs.Partial.{IsPartial, total_of, excess, part_volume}
use Rattle.throughput.proofs.Totals.{dot-factor}

-- the row's walk, and what the threshold has above its distance, come to the threshold
abbrev Reaches : ℕ → List ℕ → List ℕ → Row → Type 0
Reaches threshold lengths over row = threshold ≤ walk_length lengths row.walk + get_or over row.commodity 0

reached : (threshold : ℕ) (lengths over : List ℕ) (rows : List Row) → All (Reaches threshold lengths over) rows
    → total_of rows * threshold ≤ sum_by (λ r. r.weight * walk_length lengths r.walk) rows + sum_by (λ r. r.weight * get_or over r.commodity 0) rows
reached threshold lengths over [] all = omega arith
reached threshold lengths over (r ∷ rows) all =
    let front : r.weight * threshold ≤ r.weight * (walk_length lengths r.walk + get_or over r.commodity 0) = mul-le-mul_left r.weight (All-head (Reaches threshold lengths over) r rows all) in
    let rest = reached threshold lengths over rows (All-tail (Reaches threshold lengths over) r rows all) in
    let total = sum_by-cons (λ s. s.weight) r rows in
    let walks = sum_by-cons (λ s. s.weight * walk_length lengths s.walk) r rows in
    let overs = sum_by-cons (λ s. s.weight * get_or over s.commodity 0) r rows in
    let product : total_of (r ∷ rows) * threshold ≡ (r.weight + total_of rows) * threshold = ap (λ n. n * threshold) total in
    omega arith

carried_below : (net : Network) (rows : List Row) (q : ℕ) → IsPartial net rows q → (k : ℕ) → k < length net.commodities → carried rows k ≤ q * (get_or net.commodities k no_commodity).amount
carried_below net rows q p k lt = p.carried k (get_or net.commodities k no_commodity) (slice_get-get_or net.commodities k no_commodity lt)

pub threshold_bounds : (net : Network) (threshold : ℕ) (lengths distances : List ℕ) (rows : List Row) (q : ℕ)
    → length lengths ≡ length net.cells → length distances ≡ length net.commodities → IsBelowItsRows lengths distances rows → IsPartial net rows q
    → total_of rows * threshold ≤ q * part_volume net threshold lengths distances
threshold_bounds net threshold lengths distances rows q len count below p =
    let over = excess threshold distances in
    let amount : ℕ → ℕ = λ k. (get_or net.commodities k no_commodity).amount in
    let cap : ℕ → ℕ = λ c. (get_or net.cells c no_cell).cap in
    let reach = reached threshold lengths over rows all in
    let by_rows = dot-carried rows over in
    let by_cells = dot-load_of rows lengths in
    let amounts : dot amount over ≡ weighted_distance net.commodities over = dot-weighted_sum (λ k. k.amount) no_commodity net.commodities over refl in
    let caps : dot cap lengths ≡ volume net.cells lengths = dot-weighted_sum (λ c. c.cap) no_cell net.cells lengths refl in
    let many = length-over in
    let carries = dot-le (carried rows) (λ k. q * amount k) over (λ k lt. carried_below net rows q p k (omega arith)) in
    let within = dot-le (load_of rows) (λ c. q * cap c) lengths (λ c lt. p.within c (get_or net.cells c no_cell) (slice_get-get_or net.cells c no_cell (omega arith))) in
    let amounts_scaled = dot-factor q amount over in
    let caps_scaled = dot-factor q cap lengths in
    let scaled_amounts : q * dot amount over ≡ q * weighted_distance net.commodities over = ap (λ n. q * n) amounts in
    let scaled_caps : q * dot cap lengths ≡ q * volume net.cells lengths = ap (λ n. q * n) caps in
    omega arith
  where
    length-over : length (excess threshold distances) ≡ length net.commodities
    length-over = length-map distances (λ distance. threshold - distance) ∙ count

    all : All (Reaches threshold lengths (excess threshold distances)) rows
    all = λ i d lt.
        let r = get_or rows i d in
        let j : Joins net r = p.walks i d lt in
        let inside = slice_get_within net.commodities r.commodity j.0 j.1 in
        let is : get_or (excess threshold distances) r.commodity 0 ≡ threshold - get_or distances r.commodity 0 = get_or-map (λ distance. threshold - distance) distances r.commodity 0 0 (omega arith) in
        omega (arith, below i d lt)

-- amounts times what is above distances, commodity by commodity
pub excess_sum : {X : Type 0} (f h : X → ℕ) (g : ℕ → ℕ) (xs : List X) → weighted_sum f xs (map g (map h xs)) ≡ sum_by (λ x. f x * g (h x)) xs
excess_sum f h g [] = refl
excess_sum f h g (x ∷ xs) = ap (λ n. f x * g (h x) + n) (excess_sum f h g xs) ∙ sym (sum_by-cons (λ y. f y * g (h y)) x xs)
