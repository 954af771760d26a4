use Rattle.std.proofs.Common.{rules, ◌≡◌, ℕ, List, [], refl, sym, ap, ◌∙◌, subst, arith, true, false}
use Rattle.flow_model.specs.declared.setting.Setting.{Setting}
use Rattle.flow_model.specs.Lengths.{lengths_of}
use Rattle.flow_paths.specs.Evaluation.{fill}
use Rattle.dual_bound.specs.Bounds.{IsBoundOf, IsBounded}
use Rattle.flow_solver.specs.Rows.{HistoryView, AreRowsFor}
use Rattle.flow_solver.specs.declared.search.Search.{Search}
use Rattle.flow_solver.specs.Search.{HasRouted}
use Rattle.flow_solver.proofs.Routing.{can-route, routed-same, search-more}
use Rattle.flow_solver.proofs.Reaching.{first-reached}
use Rattle.flow_solver.proofs.reached.first.Goals as goal

pub route-requires-after_bounds : goal.route-requires-after_bounds
route-requires-after_bounds g c κs within =
    can-route c.args.run.now.on.now.net.now c.setting_at_first-setting.result [] c.in_ok-search.search c.requires.no_cut (search rules) c.in_ok-search.ensures.search (omega arith)

pub returns-clause-reached : goal.returns-clause-reached
returns-clause-reached g c =
    let net = c.args.run.now.on.now.net.now in
    let o = c.args.run.now.options.now in
    let old = c.in_ok-search.search in
    let mid = c.route.new.search in
    let new : Search = record { loads = mid.loads; room = c.bound_of.new.room; hands = mid.hands; spare = mid.spare; history = mid.history; sought = mid.sought; pace = mid.pace } in
    let f = c.measured-fill.result in
    let kept = c.in_ok-kept.kept in
    let setting : Setting = record { first = true; ref_cap = 0; ref_load = 1; step = o.step } in
    let later : Setting = record { first = false; ref_cap = f.cap; ref_load = f.load; step = o.step } in
    let before = c.in_ok-search.ensures.search in
    let is = c.in_ok-route.ensures in
    let same = is.history in
    let routed : HasRouted net setting old new = routed-same net setting old mid new (subst (λ (x : Setting). HasRouted net x old mid) c.setting_at_first-setting.ensures is.routed) refl refl refl in
    let after = search-more net setting [] old new c.cells-cells.ensures.net before routed c.in_ok-kept.ensures.room (ap (λ (h : HistoryView). h.commodities) same ∙ before.commodities)
    (subst (λ (h : HistoryView). AreRowsFor net h.history h.rows) (sym same) before.rows) in
    let none = ap (λ (h : HistoryView). h.history) same ∙ c.in_ok-search.ensures.nothing in
    let loads : c.deref-2.result.now ≡ new.loads.items = c.deref-2.ensures.value in
    let made = c.in_ok-kept.ensures.bound in
    let bounded : IsBounded net (lengths_of net c.setting_after_first-later.result c.deref-2.result.now) kept = subst (IsBounded net (lengths_of net c.setting_after_first-later.result c.deref-2.result.now)) (sym made.2) made.1 in
    let bound : IsBoundOf net (lengths_of net later new.loads.items) kept.dual =
    subst (λ (xs : List ℕ). IsBoundOf net (lengths_of net later xs) kept.dual) loads
    (subst (λ (x : Setting). IsBoundOf net (lengths_of net x c.deref-2.result.now) kept.dual) c.setting_after_first-later.ensures bounded.0) in
    first-reached net o old new f kept before c.in_ok-search.ensures.hands routed after none
    (c.measured-fill.ensures.value ∙ ap (fill net.cells) c.deref.ensures.value) c.measured-fill.ensures.fits bound
    (lengths_of net c.setting_after_first-later.result c.deref-2.result.now, bounded.1) bounded.2
