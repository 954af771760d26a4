-- A weighted distance, added up commodity by commodity.
use Rattle.std.proofs.Common.{◌≡◌, ℕ, ◌+◌, ◌*◌, ◌<◌, ◌≤◌, List, [], ◌∷◌, length, map, get_or, take, sym, ap, ◌∙◌, arith, refl}
use Rattle.std.specs.List.{sum_by, enumerate_from}
use Rattle.std.proofs.lemmas.Nat.{mul-le}
use Rattle.std.proofs.lemmas.List.{take_all}
use Rattle.std.proofs.lemmas.List.Sums.{sum_by-cons, sum_by_more}
use Rattle.std.proofs.lemmas.List.FromFn.{length-enumerate_from, get_or-enumerate_from}
use Rattle.mcf_limits.specs.declared.TheConstants.{MAX_LENGTH}
use Rattle.flow_model.specs.declared.net.Commodity.{Commodity}
use Rattle.flow_model.specs.Bound.{weighted_distance}
use Rattle.flow_model.proofs.Duality.{no_commodity}

-- amount times what is said of the commodity of that number
abbrev pub weighed : (ℕ → Commodity → ℕ) → ℕ × Commodity → ℕ
weighed f = λ j. j.1.amount * f j.0 j.1

pub weighed-more : (cs : List Commodity) (f : ℕ → Commodity → ℕ) (k total d : ℕ) → k < length cs → d ≡ f k (get_or cs k no_commodity) → total ≡ sum_by (weighed f) (take k (enumerate_from 0 cs))
    → total + (get_or cs k no_commodity).amount * d ≡ sum_by (weighed f) (take (k + 1) (enumerate_from 0 cs))
weighed-more cs f k total d lt is h =
    let all = enumerate_from 0 cs in
    let x = get_or cs k no_commodity in
    let many = length-enumerate_from 0 cs in
    let more = sum_by_more (weighed f) all k (0, no_commodity) (omega arith) in
    let there : get_or all k (0, no_commodity) ≡ (0 + k, x) = get_or-enumerate_from 0 cs k (0, no_commodity) lt in
    let plain : 0 + k ≡ k = omega arith in
    let one : weighed f (get_or all k (0, no_commodity)) ≡ x.amount * d = ap (weighed f) there ∙ ap (λ (n : ℕ). x.amount * f n x) plain ∙ ap (λ (n : ℕ). x.amount * n) (sym is) in
    omega arith

pub bound-more : (cs : List Commodity) (k total d : ℕ) → k < length cs → d ≤ MAX_LENGTH → total ≤ MAX_LENGTH * sum_by (λ c. c.amount) (take k cs)
    → total + (get_or cs k no_commodity).amount * d ≤ MAX_LENGTH * sum_by (λ c. c.amount) (take (k + 1) cs)
bound-more cs k total d lt small h =
    let a = (get_or cs k no_commodity).amount in
    let more = sum_by_more (λ c. c.amount) cs k no_commodity lt in
    let product = mul-le a d a MAX_LENGTH (omega arith) small in
    omega arith

pub summed : (f : ℕ → Commodity → ℕ) (n : ℕ) (cs : List Commodity) → weighted_distance cs (map (λ (j : ℕ × Commodity). f j.0 j.1) (enumerate_from n cs)) ≡ sum_by (weighed f) (enumerate_from n cs)
summed f n [] = refl
summed f n (x ∷ cs) = ap (λ (m : ℕ). x.amount * f n x + m) (summed f (n + 1) cs) ∙ sym (sum_by-cons (weighed f) (n, x) (enumerate_from (n + 1) cs))

pub weighed-all : (cs : List Commodity) (f : ℕ → Commodity → ℕ) (k total : ℕ) → length cs ≡ k → total ≡ sum_by (weighed f) (take k (enumerate_from 0 cs)) → total ≡ weighted_distance cs (map (λ (j : ℕ × Commodity). f j.0 j.1) (enumerate_from 0 cs))
weighed-all cs f k total len h =
    let many = length-enumerate_from 0 cs in
    h ∙ ap (sum_by (weighed f)) (take_all k (enumerate_from 0 cs) (omega arith)) ∙ sym (summed f 0 cs)
