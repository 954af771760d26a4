use Rattle.std.proofs.Common.{subst}
use Rattle.flow_model.specs.declared.setting.Setting.{Setting}
use Rattle.flow_paths.specs.Fullness.{fullness}
use Rattle.route_tally.specs.Asked.{later_setting}
use Rattle.throughput.specs.Run.{IsPartBoundOf}
use Rattle.throughput.specs.Loaded.{lengths_under}
use Rattle.throughput.specs.Reached.{HasPhase}
use Rattle.throughput.proofs.PartReaching.{IsMeasured, next-reached, next-some, phase-loaded}
use Rattle.throughput.proofs.steps.next.Goals as goal

pub fullest_of-fill-requires-clause-loaded : goal.fullest_of-fill-requires-clause-loaded
fullest_of-fill-requires-clause-loaded c =
    let on = c.args.on.now in
    phase-loaded on.net.now on.gates.now c.setting_after_first-setting.result c.args.reached.loaded c.phase.new.loaded c.in_ok-phase.ensures.phase (_, c.requires.reached.loaded)

pub fullest_of-fill-requires-clause-some : goal.fullest_of-fill-requires-clause-some
fullest_of-fill-requires-clause-some c =
    let on = c.args.on.now in
    next-some on.net.now on.gates.now c.args.options.now c.setting_after_first-setting.result c.args.reached c.phase.new.loaded c.requires.on.network c.requires.reached c.in_ok-phase.ensures.phase

pub bounded-requires-clause-loaded : goal.bounded-requires-clause-loaded
bounded-requires-clause-loaded c =
    let on = c.args.on.now in
    phase-loaded on.net.now on.gates.now c.setting_after_first-setting.result c.args.reached.loaded c.phase.new.loaded c.in_ok-phase.ensures.phase (_, c.requires.reached.loaded)

pub returns-clause-reached : goal.returns-clause-reached
returns-clause-reached c =
    let on = c.args.on.now in
    let net = on.net.now in
    let gates = on.gates.now in
    let r = c.args.reached in
    let step = c.args.options.now.step in
    let new = c.phase.new.loaded in
    let later = c.in_ok-later.later in
    let setting = later_setting step (fullness r.reference) in
    let has : HasPhase net gates setting r.loaded new = subst (λ (s : Setting). HasPhase net gates s r.loaded new) c.setting_after_first-setting.ensures c.in_ok-phase.ensures.phase in
    let measured : IsMeasured net gates setting new later = record {
      bound = subst (λ (s : Setting). IsPartBoundOf net (lengths_under net gates s new) later.bound) c.setting_after_first-setting.ensures c.in_ok-later.ensures.bound;
      value = c.in_ok-later.ensures.value;
      positive = c.in_ok-later.ensures.threshold.0;
      limit = c.in_ok-later.ensures.threshold.1;
    } in
    next-reached net gates c.args.options.now r new c.bounded.new.room c.fullest_of-fill.result later c.lesser.result c.requires.on.network c.requires.reached c.requires.unmet has
    (record { total = c.in_ok-phase.ensures.total; few = c.in_ok-phase.ensures.few }) c.fullest_of-fill.ensures.value c.fullest_of-fill.ensures.fits measured c.lesser.ensures c.bounded.ensures.room
