use Rattle.std.proofs.Common.{◌≡◌, ℕ, ◌<◌, List, length, get_or, refl, sym, ap, ◌∙◌, subst, arith}
use Rattle.std.proofs.lemmas.List.{get_or_default}
use Rattle.flow_model.specs.declared.net.Cell.{Cell}
use Rattle.flow_model.specs.Lengths.{IsSetting, lengths_of}
use Rattle.fixed_exp.specs.LoadedNetwork.{LoadedNetwork}
use Rattle.flow_paths.specs.Fullness.{fullness}
use Rattle.flow_paths.specs.Evaluation.{fill, loads_of}
use Rattle.route_tally.specs.Asked.{later_setting}
use Rattle.hop_solve.specs.declared.turns.Routed.{Routed}
use Rattle.hop_solve.specs.Run.{IsHopBoundOf}
use Rattle.hop_solve.specs.Turns.{IsRouted}
use Rattle.hop_solve.specs.Numbers.{hop_dual_of}
use Rattle.hop_solve.proofs.Turning.{loads-within, with-table}
use Rattle.hop_solve.proofs.Turned.{lengths-then}
use Rattle.hop_solve.proofs.Reaching.{first-fill, first-small, later-fits, first-reached}
use Rattle.hop_solve.proofs.reached.first.Goals as goal

pub new-requires : goal.new-requires
new-requires c =
    let net = c.args.on.now.net.now in
    let p = c.requires.phase in
    let loads : c.deref.result.now ≡ loads_of net p.0 = c.deref.ensures.value ∙ p.2.loads in
    let same : fullness c.fullest-fill.result ≡ fill net.cells (loads_of net p.0) = c.fullest-fill.ensures ∙ (ap (λ (cells : List Cell). fill cells c.deref.result.now) c.cells.ensures.value ∙ ap (fill net.cells) loads) in
    let fits = first-fill net c.args.on.now.limits.now _ p.0 c.fullest-fill.result c.cells.ensures.net c.requires.limits p.1 same in
    subst IsSetting (sym c.setting_after_first-setting.ensures) (later-fits c.args.options.now.step c.fullest-fill.result fits c.requires.options.step)

pub update-requires-clause-small : goal.update-requires-clause-small
update-requires-clause-small c = λ k d l.
    let net = c.args.on.now.net.now in
    let p = c.requires.phase in
    let same = c.deref-2.ensures.value in
    let inside : k < length c.args.routed.loads.items = omega (arith, l, ap (λ (xs : List ℕ). length xs) same) in
    omega (
      arith,
      get_or_default c.deref-2.result.now k d 0 l,
      ap (λ (xs : List ℕ). get_or xs k 0) same,
      loads-within net p.0 c.args.routed k p.2 inside,
      first-small net c.args.on.now.limits.now _ p.0 c.cells.ensures.net c.requires.limits p.1,
    )

pub returns-clause-reached : goal.returns-clause-reached
returns-clause-reached c =
    let net = c.args.on.now.net.now in
    let limits = c.args.on.now.limits.now in
    let o = c.args.options.now in
    let p = c.requires.phase in
    let f = c.fullest-fill.result in
    let loads : c.deref.result.now ≡ loads_of net p.0 = c.deref.ensures.value ∙ p.2.loads in
    let same : fullness f ≡ fill net.cells (loads_of net p.0) = c.fullest-fill.ensures ∙ (ap (λ (cells : List Cell). fill cells c.deref.result.now) c.cells.ensures.value ∙ ap (fill net.cells) loads) in
    let new : Routed = record { loads = c.args.routed.loads; table = c.update.new.self; tally = c.args.routed.tally } in
    let net_is : new.table.net ≡ net = c.update.ensures.net ∙ ap (λ (x : LoadedNetwork). x.net) c.in_ok-routed.ensures in
    let setting : new.table.setting ≡ later_setting o.step (fullness f) = c.update.ensures.setting ∙ ap (λ (x : LoadedNetwork). x.setting) c.in_ok-routed.ensures ∙ c.setting_after_first-setting.ensures in
    let routed : IsRouted net p.0 new = with-table net p.0 c.args.routed new p.2 refl refl net_is (c.update.ensures.loads ∙ c.deref-2.ensures.value) in
    let lengths : c.lengths.result.now ≡ lengths_of net new.table.setting (loads_of net p.0) = c.lengths.ensures.value ∙ lengths-then net p.0 new routed in
    let bound : IsHopBoundOf net limits (lengths_of net new.table.setting (loads_of net p.0)) (hop_dual_of c.in_ok-kept.kept) = subst (λ (ls : List ℕ). IsHopBoundOf net limits ls (hop_dual_of c.in_ok-kept.kept)) lengths c.in_ok-kept.ensures.dual in
    first-reached net limits c.args.on.now.counts.now o p.0 _ c.cells.ensures.net c.requires.limits c.requires.options p.1 routed setting c.bound_of.ensures.finder same refl bound c.in_ok-kept.ensures.value
