-- Groups and the commodities in them.
use Rattle.std.proofs.Common.{ℕ, suc, ◌≤◌, Bool, true, false, List, [], ◌∷◌, cond, length, arith}
use Rattle.std.specs.List.{filter, range_with_len}
use Rattle.std.proofs.lemmas.List.FromFn.{length-range_with_len}
use Rattle.mcf_limits.specs.declared.TheConstants.{MAX_NODES}
use Rattle.flow_model.specs.Network.{Network, IsNetwork}
use Rattle.flow_model.specs.Groups.{group_count, is_source}

pick-le : (b : Bool) (x : ℕ) (xs : List ℕ) (n : ℕ) → length xs ≤ n → length (cond b (x ∷ xs) xs) ≤ suc n
pick-le true x xs n l = omega arith
pick-le false x xs n l = omega arith

filter-le : (test : ℕ → Bool) (xs : List ℕ) → length (filter test xs) ≤ length xs
filter-le test [] = omega arith
filter-le test (x ∷ xs) = pick-le (test x) x (filter test xs) (length xs) (filter-le test xs)

-- there are no more groups than nodes
pub few-groups : (net : Network) → IsNetwork net → group_count net ≤ MAX_NODES
unfolding group_count
few-groups net n = omega (arith, filter-le (is_source net.commodities) (range_with_len 0 net.nodes), length-range_with_len 0 net.nodes, n.nodes)
