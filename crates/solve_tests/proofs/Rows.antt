-- A complete entry, from least paths for the members of its group.
use Rattle.std.proofs.Common.{◌≡◌, ℕ, zero, suc, ◌+◌, ◌<◌, List, [], ◌∷◌, length, false, refl, sym, subst, arith}
use Rattle.std.specs.Prelude.{Some, None, slice_get}
use Rattle.flow_model.specs.declared.net.Commodity.{Commodity}
use Rattle.flow_core.specs.declared.state.Entry.{Entry}
use Rattle.flow_core.specs.Core.{Terms, IsComplete, entry, worker, path_of, cell_count, commodity_count, group_of}
use Rattle.load_table.specs.declared.view.Hand.{Hand}
use Rattle.load_table.specs.Views.{hand}
use Rattle.load_table.specs.Rule.{MayClaim}
use Rattle.solve_tests.specs.Routed.{IsLeastPath}

inside : (xs : List Commodity) (k : ℕ) (c : Commodity) → slice_get xs k ≡ Some c → k < length xs
inside [] k c e = absurd (let z : None ≡ Some c = e in cc)
inside (x ∷ xs) zero c e = omega arith
inside (x ∷ xs) (suc k) c e = let l = inside xs k c e in omega arith

complete : (t : Terms) (g : ℕ) (reads : List ℕ) (adds : List (ℕ × ℕ)) → length reads ≡ cell_count t
    → ((k : ℕ) → k < commodity_count t → group_of t k ≡ g → IsLeastPath t.net t.setting reads k (path_of k adds)) → IsComplete t (entry g reads adds)
complete t g reads adds all found = record {
  all_read = all;
  members = λ k commodity at same. (let l = found k (inside t.net.commodities k commodity at) same in record { least = l.least commodity at; different = l.different });
}

pub may-claim-again : (t : Terms) (n g : ℕ) (hands : List Hand) (reads : List ℕ) (adds : List (ℕ × ℕ)) (ticket : ℕ) (words : List ℕ) → hands ≡ hand n (worker (entry g reads adds ∷ []) false ticket words) ∷ [] → length reads ≡ cell_count t
    → ((k : ℕ) → k < commodity_count t → group_of t k ≡ g → IsLeastPath t.net t.setting reads k (path_of k adds)) → MayClaim t hands
may-claim-again t n g hands reads adds ticket words is all found = subst (MayClaim t) (sym is) (refl, complete t g reads adds all found)

-- where there is one commodity, or two
pub one-case : (P : ℕ → Type 0) (n : ℕ) → n ≡ 1 → P 0 → (k : ℕ) → k < n → P k
one-case P n e a zero l = a
one-case P n e a (suc k) l = absurd (omega arith)

pub two-cases : (P : ℕ → Type 0) (n : ℕ) → n ≡ 2 → P 0 → P 1 → (k : ℕ) → k < n → P k
two-cases P n e a b zero l = a
two-cases P n e a b (suc zero) l = b
two-cases P n e a b (suc (suc k)) l = absurd (omega arith)
