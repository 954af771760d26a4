use Rattle.std.proofs.Common.{rules, arith, ◌≡◌, ℕ, List, [], ◌∷◌, false, length, refl, sym}
use Rattle.flow_model.specs.Groups.{group_in, group_count}
use Rattle.flow_core.specs.Core.{entry, worker, cell_count, commodity_count, group_of, path_of}
use Rattle.load_table.specs.declared.view.Hand.{Hand}
use Rattle.load_table.specs.Views.{hand}
use Rattle.solve_tests.specs.Routed.{IsLeastPath}
use Rattle.solve_tests.proofs.Rows.{may-claim-again, two-cases}
use Rattle.solve_tests.proofs.steps.two_workers_add_to_one_cell.Goals as goal

pub claim-ticket-requires-3-clause-may : goal.claim-ticket-requires-3-clause-may
unfolding group_in group_count
claim-ticket-requires-3-clause-may g c =
    let t = c.in_ok-loads.loads.terms in
    let adds : List (ℕ × ℕ) = (0, 0) ∷ [] in
    let is : c.add_cell-word.new.pass.view.hands ≡ hand 0 (worker (entry 0 (0 ∷ []) adds ∷ []) false 0 (0 ∷ [])) ∷ [] = search rules in
    let cells : cell_count t ≡ 1 = search rules in
    let commodities : commodity_count t ≡ 2 = search rules in
    let mine : IsLeastPath t.net t.setting (0 ∷ []) 0 (0 ∷ []) = search rules in
    let other : group_of t 1 ≡ 1 = search rules in
    may-claim-again t 0 0 c.add_cell-word.new.pass.view.hands (0 ∷ []) adds 0 (0 ∷ []) is (sym cells)
    (two-cases (λ k. group_of t k ≡ 0 → IsLeastPath t.net t.setting (0 ∷ []) k (path_of k adds)) (commodity_count t) commodities (λ same. mine) (λ same. absurd (omega arith)))

pub claim-ticket-requires-4-clause-may : goal.claim-ticket-requires-4-clause-may
unfolding group_in group_count
claim-ticket-requires-4-clause-may g c =
    let t = c.in_ok-loads.loads.terms in
    let adds : List (ℕ × ℕ) = (1, 0) ∷ [] in
    let is : c.add_cell-word-2.new.pass.view.hands ≡ hand 1 (worker (entry 1 (0 ∷ []) adds ∷ []) false 1 (5 ∷ [])) ∷ [] = search rules in
    let cells : cell_count t ≡ 1 = search rules in
    let commodities : commodity_count t ≡ 2 = search rules in
    let mine : IsLeastPath t.net t.setting (0 ∷ []) 1 (0 ∷ []) = search rules in
    let other : group_of t 0 ≡ 0 = search rules in
    may-claim-again t 1 1 c.add_cell-word-2.new.pass.view.hands (0 ∷ []) adds 1 (5 ∷ []) is (sym cells)
    (two-cases (λ k. group_of t k ≡ 1 → IsLeastPath t.net t.setting (0 ∷ []) k (path_of k adds)) (commodity_count t) commodities (λ same. absurd (omega arith)) (λ same. mine))
