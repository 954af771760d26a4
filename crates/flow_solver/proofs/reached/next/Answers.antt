use Rattle.std.proofs.Common.{rules, ap, ◌∙◌, subst, false}
use Rattle.flow_model.specs.declared.setting.Setting.{Setting}
use Rattle.flow_model.specs.Lengths.{lengths_of}
use Rattle.flow_paths.specs.Evaluation.{fill}
use Rattle.dual_bound.specs.Bounds.{IsBoundOf}
use Rattle.flow_solver.specs.Search.{HasAdded}
use Rattle.flow_solver.proofs.Reaching.{adds-phase, count-more, next-reached}
use Rattle.flow_solver.proofs.reached.next.Goals as goal

pub one_phase-requires-after_bounds : goal.one_phase-requires-after_bounds
one_phase-requires-after_bounds g c κs within = adds-phase c.args.run.now.on.now.net.now c.args.run.now.options.now c.args.reached c.setting_after_first-setting.result c.requires (search rules)

pub returns-clause-reached : goal.returns-clause-reached
returns-clause-reached g c =
    let net = c.args.run.now.on.now.net.now in
    let o = c.args.run.now.options.now in
    let r = c.args.reached in
    let new = c.one_phase.new.search in
    let e = c.in_ok-kept.ensures in
    let later = e.bound.0 in
    let made = e.bound.1 in
    let setting : Setting = record { first = false; ref_cap = r.reference.cap; ref_load = r.reference.load; step = o.step } in
    let is = c.setting_after_first-setting.ensures in
    let added : HasAdded net setting r.search new = subst (λ (x : Setting). HasAdded net x r.search new) is e.added in
    let bound : IsBoundOf net (lengths_of net setting new.loads.items) later.dual = subst (λ (x : Setting). IsBoundOf net (lengths_of net x new.loads.items) later.dual) is made.0 in
    next-reached net o r new c.measured-fill.result later c.in_ok-kept.kept c.cells-cells.ensures.net c.requires.reached c.requires.unmet added
    (c.measured-fill.ensures.value ∙ ap (fill net.cells) c.deref.ensures.value) c.measured-fill.ensures.fits bound
    (lengths_of net c.setting_after_first-setting.result new.loads.items, made.1) made.2 e.bound.2

pub returns-clause-count : goal.returns-clause-count
returns-clause-count g c =
    let is = c.requires.reached in
    count-more c.args.run.now.on.now.net.now c.setting_after_first-setting.result c.args.reached.search c.one_phase.new.search is.made is.made_are c.in_ok-kept.ensures.added
