use Rattle.std.proofs.Common.{◌≡◌, ℕ, ◌<◌, List, length, map, sym, ap, ◌∙◌, subst, arith}
use Rattle.std.specs.Prelude.{All}
use Rattle.std.proofs.lemmas.List.Elements.{All-from_get_or}
use Rattle.flow_model.specs.Routing.{Row}
use Rattle.flow_paths.specs.Ordering.{AreNumbersOf}
use Rattle.flow_paths.proofs.Numbers.{below_of_all}
use Rattle.solver_run.specs.declared.options.Entry.{Entry}
use Rattle.solver_run.specs.History.{routed_in, AreRowsOf}
use Rattle.flow_solver.specs.Phases.{renumbered}
use Rattle.flow_solver.specs.Rows.{HistoryView, AreRowsFor, phases_kept}
use Rattle.flow_solver.proofs.Renumbered.{in_order, phases_back, rows_back}
use Rattle.flow_solver.proofs.history.PathHistory.ordered.Goals as goal

pub stored-requires-clause-all : goal.stored-requires-clause-all
stored-requires-clause-all c =
    let rows = c.self.inside.paths in
    let order = c.in_ok-order.order.items in
    let is = c.in_ok-order.ensures.order in
    let count = is.count in
    let all : All (λ n. n < length rows) order = All-from_get_or (λ n. n < length rows) order 0 (λ i l. let b = below_of_all order i is.all l in omega (arith, b, count)) in
    subst (All (λ n. n < length rows)) (sym c.deref-2.ensures.value) all

pub returns-clause-phases : goal.returns-clause-phases
returns-clause-phases c =
    let rows = c.self.inside.paths in
    let h = c.self.inside.entries.phases in
    let order = c.in_ok-order.order.items in
    let numbers = c.in_ok-numbers.numbers.items in
    let are : AreNumbersOf order numbers = subst (λ (t : List ℕ). AreNumbersOf t numbers) c.deref.ensures.value c.in_ok-numbers.ensures in
    let new : c.in_ok-paths.paths ≡ in_order rows order = c.in_ok-paths.ensures ∙ ap (in_order rows) c.deref-2.ensures.value in
    let phases : c.renumber.new.self.phases ≡ map (map (renumbered numbers)) h = c.renumber.ensures.phases ∙ ap (λ (t : List ℕ). map (map (renumbered t)) h) c.deref-3.ensures.value in
    ap (λ (t : List Row). map (routed_in t) c.renumber.new.self.phases) new ∙ ap (map (routed_in (in_order rows order))) phases
    ∙ phases_back rows order numbers c.in_ok-order.ensures.order are h c.self.invariant ∙ ap phases_kept c.self.view_is

pub returns-clause-rows : goal.returns-clause-rows
returns-clause-rows c = λ net belong.
    let rows = c.self.inside.paths in
    let h = c.self.inside.entries.phases in
    let order = c.in_ok-order.order.items in
    let numbers = c.in_ok-numbers.numbers.items in
    let are : AreNumbersOf order numbers = subst (λ (t : List ℕ). AreNumbersOf t numbers) c.deref.ensures.value c.in_ok-numbers.ensures in
    let new : c.in_ok-paths.paths ≡ in_order rows order = c.in_ok-paths.ensures ∙ ap (in_order rows) c.deref-2.ensures.value in
    let phases : c.renumber.new.self.phases ≡ map (map (renumbered numbers)) h = c.renumber.ensures.phases ∙ ap (λ (t : List ℕ). map (map (renumbered t)) h) c.deref-3.ensures.value in
    let before : AreRowsFor net h rows = subst (λ (v : HistoryView). AreRowsFor net v.history v.rows) (sym c.self.view_is) belong in
    subst (λ (t : List Row). AreRowsOf net c.renumber.new.self.phases t) (sym new)
    (subst (λ (t : List (List Entry)). AreRowsOf net t (in_order rows order)) (sym phases) (rows_back net h rows order numbers c.in_ok-order.ensures.order are c.self.invariant before))
