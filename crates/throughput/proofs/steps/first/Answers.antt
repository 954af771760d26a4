use Rattle.std.proofs.Common.{subst}
use Rattle.flow_model.specs.declared.setting.Setting.{Setting}
use Rattle.flow_paths.specs.Fullness.{fullness}
use Rattle.route_tally.specs.Asked.{first_setting, later_setting}
use Rattle.throughput.specs.Run.{IsPartBoundOf}
use Rattle.throughput.specs.Loaded.{lengths_under}
use Rattle.throughput.specs.Reached.{HasPhase}
use Rattle.throughput.proofs.PartReaching.{IsMeasured, first-reached, first-some}
use Rattle.throughput.proofs.steps.first.Goals as goal

pub fullest_of-fill-requires-clause-some : goal.fullest_of-fill-requires-clause-some
fullest_of-fill-requires-clause-some c =
    let on = c.args.on.now in
    let net = on.net.now in
    let step = c.args.options.now.step in
    let has : HasPhase net on.gates.now (first_setting step) c.args.loaded c.phase.new.loaded = subst (λ (s : Setting). HasPhase net on.gates.now s c.args.loaded c.phase.new.loaded) c.setting_at_first-setting.ensures c.in_ok-phase.ensures.phase in
    first-some net on.gates.now step c.args.loaded c.phase.new.loaded c.requires.on.network has c.requires.loaded

pub returns-clause-reached : goal.returns-clause-reached
returns-clause-reached c =
    let on = c.args.on.now in
    let net = on.net.now in
    let gates = on.gates.now in
    let step = c.args.options.now.step in
    let new = c.phase.new.loaded in
    let f = c.fullest_of-fill.result in
    let kept = c.in_ok-kept.kept in
    let has : HasPhase net gates (first_setting step) c.args.loaded new = subst (λ (s : Setting). HasPhase net gates s c.args.loaded new) c.setting_at_first-setting.ensures c.in_ok-phase.ensures.phase in
    let measured : IsMeasured net gates (later_setting step (fullness f)) new kept = record {
      bound = subst (λ (s : Setting). IsPartBoundOf net (lengths_under net gates s new) kept.bound) c.setting_after_first-later.ensures c.in_ok-kept.ensures.bound;
      value = c.in_ok-kept.ensures.value;
      positive = c.in_ok-kept.ensures.threshold.0;
      limit = c.in_ok-kept.ensures.threshold.1;
    } in
    first-reached net gates c.args.options.now c.args.loaded new c.bounded.new.room f kept c.requires.on.network c.requires.loaded c.requires.none.0 c.requires.none.1 has
    (record { total = c.in_ok-phase.ensures.total; few = c.in_ok-phase.ensures.few }) c.fullest_of-fill.ensures.value c.fullest_of-fill.ensures.fits measured c.bounded.ensures.room
