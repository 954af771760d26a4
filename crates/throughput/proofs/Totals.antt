-- All that rows carry, by commodities.
use Rattle.std.proofs.Common.{◌≡◌, ℕ, suc, ◌*◌, ◌<◌, ◌≤◌, List, [], ◌∷◌, length, get_or, All, Some, sym, ap, ◌∙◌, arith, refl}
use Rattle.std.specs.Prelude.{replicate, slice_get}
use Rattle.std.specs.List.{sum_by}
use Rattle.std.proofs.Math.Nat.{mul-le-mul_left}
use Rattle.std.proofs.lemmas.List.{get_or-replicate, length-replicate}
use Rattle.std.proofs.lemmas.List.Sums.{sum_by-cons}
use Rattle.std.proofs.lemmas.List.Elements.{All-head, All-tail}
use Rattle.std.proofs.lemmas.Option.{slice_get-get_or}
use Rattle.flow_model.specs.declared.net.Commodity.{Commodity}
use Rattle.flow_model.specs.Network.{Network, IsNetwork}
use Rattle.flow_model.specs.Routing.{Row, carried}
use Rattle.flow_model.specs.Bound.{weighted_sum}
use Rattle.flow_model.proofs.Duality.{dot, dot-le, dot-carried, dot-weighted_sum, no_commodity}
use Rattle.flow_paths.specs.declared.certificate.Routing.{Routing}
use Rattle.flow_paths.specs.Certificate.{IsRoutingOf}
use Rattle.throughput.specs.Partial.{total_of}
use Rattle.throughput.specs.Conditions.{AmountsFit}

pub dot-factor : (a : ℕ) (f : ℕ → ℕ) (ys : List ℕ) → dot (λ i. a * f i) ys ≡ a * dot f ys
dot-factor a f [] = omega arith
dot-factor a f (y ∷ ys) =
    let rest : dot (λ i. a * f (suc i)) ys ≡ a * dot (λ i. f (suc i)) ys = dot-factor a (λ i. f (suc i)) ys in
    omega arith

by_ones : (n : ℕ) (rows : List Row) → All (λ r. r.commodity < n) rows → total_of rows ≡ sum_by (λ r. r.weight * get_or (replicate n 1) r.commodity 0) rows
by_ones n [] known = refl
by_ones n (r ∷ rows) known =
    let rest = by_ones n rows (All-tail (λ r. r.commodity < n) r rows known) in
    let one : get_or (replicate n 1) r.commodity 0 ≡ 1 = get_or-replicate n r.commodity 1 0 (All-head (λ r. r.commodity < n) r rows known) in
    let left = sum_by-cons (λ s. s.weight) r rows in
    let right = sum_by-cons (λ s. s.weight * get_or (replicate n 1) s.commodity 0) r rows in
    let product : r.weight * get_or (replicate n 1) r.commodity 0 ≡ r.weight * 1 = ap (λ k. r.weight * k) one in
    omega arith

ones_sum : (f : Commodity → ℕ) (xs : List Commodity) → weighted_sum f xs (replicate (length xs) 1) ≡ sum_by f xs
ones_sum f [] = refl
ones_sum f (x ∷ xs) = let rest = ones_sum f xs in let cons = sum_by-cons f x xs in omega arith

-- the total is within the sum of the amounts as each commodity's is within its own
pub total_within : (net : Network) (rows : List Row) (factor q : ℕ) → All (λ r. r.commodity < length net.commodities) rows
    → ((k : ℕ) (commodity : Commodity) → slice_get net.commodities k ≡ Some commodity → carried rows k * factor ≤ q * commodity.amount)
    → total_of rows * factor ≤ q * sum_by (λ k. k.amount) net.commodities
total_within net rows factor q known fits =
    let n = length net.commodities in
    let ones : List ℕ = replicate n 1 in
    let amount : ℕ → ℕ = λ k. (get_or net.commodities k no_commodity).amount in
    let all : total_of rows ≡ dot (carried rows) ones = by_ones n rows known ∙ sym (dot-carried rows ones) in
    let each : dot (λ k. factor * carried rows k) ones ≤ dot (λ k. q * amount k) ones = dot-le (λ k. factor * carried rows k) (λ k. q * amount k) ones (λ k lt. within k lt) in
    let left = dot-factor factor (carried rows) ones in
    let right = dot-factor q amount ones in
    let sums : dot amount ones ≡ sum_by (λ k. k.amount) net.commodities = dot-weighted_sum (λ k. k.amount) no_commodity net.commodities ones refl ∙ ones_sum (λ k. k.amount) net.commodities in
    let product : q * dot amount ones ≡ q * sum_by (λ k. k.amount) net.commodities = ap (λ s. q * s) sums in
    let front : factor * total_of rows ≡ factor * dot (carried rows) ones = ap (λ s. factor * s) all in
    omega arith
  where
    within : (k : ℕ) → k < length {A = ℕ} (replicate (length net.commodities) 1) → factor * carried rows k ≤ q * (get_or net.commodities k no_commodity).amount
    within k lt =
        let inside : k < length net.commodities = omega (arith, length-replicate {A = ℕ} (length net.commodities) 1) in
        let is = fits k (get_or net.commodities k no_commodity) (slice_get-get_or net.commodities k no_commodity inside) in
        omega arith

-- the scaled total of a routing is within 2^108
pub scaled_total : (net : Network) (r : Routing) → IsNetwork net → IsRoutingOf net r → AmountsFit net r → total_of r.paths * r.scale_cap ≤ 324518553658426726783156020576256
scaled_total net r fits known amounts =
    let most = total_within net r.paths r.scale_cap r.scale_load (λ k d lt. (known.rows k d lt).commodity) amounts in
    let product = mul-le-mul_left r.scale_load fits.total in
    omega (arith, known.scale_load)
