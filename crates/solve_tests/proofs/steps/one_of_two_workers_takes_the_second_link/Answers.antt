use Rattle.std.proofs.Common.{rules, ◌≡◌, ℕ, List, [], ◌∷◌, false, sym}
use Rattle.flow_model.specs.Groups.{group_in, group_count}
use Rattle.flow_core.specs.Core.{entry, worker, cell_count, commodity_count, path_of}
use Rattle.load_table.specs.Views.{hand}
use Rattle.solve_tests.specs.Routed.{IsLeastPath}
use Rattle.solve_tests.proofs.Rows.{may-claim-again, one-case}
use Rattle.solve_tests.proofs.steps.one_of_two_workers_takes_the_second_link.Goals as goal

pub claim-ticket-requires-2-clause-may : goal.claim-ticket-requires-2-clause-may
unfolding group_in group_count
claim-ticket-requires-2-clause-may g c =
    let t = c.in_ok-loads.loads.terms in
    let adds : List (ℕ × ℕ) = (0, 1) ∷ [] in
    let is : c.add_cell-word.new.pass.view.hands ≡ hand 0 (worker (entry 0 (0 ∷ 10 ∷ []) adds ∷ []) false 0 (10 ∷ [])) ∷ [] = search rules in
    let cells : cell_count t ≡ 2 = search rules in
    let commodities : commodity_count t ≡ 1 = search rules in
    let found : IsLeastPath t.net t.setting (0 ∷ 10 ∷ []) 0 (1 ∷ []) = search rules in
    may-claim-again t 0 0 c.add_cell-word.new.pass.view.hands (0 ∷ 10 ∷ []) adds 0 (10 ∷ []) is (sym cells) (λ k l same. one-case (λ k. IsLeastPath t.net t.setting (0 ∷ 10 ∷ []) k (path_of k adds)) (commodity_count t) commodities found k l)
