use Rattle.std.proofs.Common.{◌≡◌, ℕ, List, ◌++◌, length, refl, sym, ap, ◌∙◌, subst}
use Rattle.flow_model.specs.declared.net.Cell.{Cell}
use Rattle.flow_model.specs.declared.setting.Setting.{Setting}
use Rattle.flow_model.specs.Network.{Network}
use Rattle.flow_model.specs.Lengths.{AreLengths, lengths_of}
use Rattle.fixed_exp.specs.Far.{EmptyAreFar}
use Rattle.flow_paths.specs.Fullness.{fullness}
use Rattle.flow_paths.specs.Evaluation.{fill, loads_of}
use Rattle.hop_solve.specs.Run.{turns_after, IsHopBoundOf}
use Rattle.hop_solve.specs.Numbers.{hop_dual_of}
use Rattle.hop_solve.proofs.Turning.{size-of}
use Rattle.hop_solve.proofs.Turned.{lengths-then}
use Rattle.hop_solve.proofs.Reaching.{room-more, next-reached}
use Rattle.hop_solve.proofs.Ending.{no-cut}
use Rattle.hop_solve.proofs.reached.next.Goals as goal

pub phase-requires-clause-room : goal.phase-requires-clause-room
phase-requires-clause-room c = room-more c.args.on.now.net.now c.args.on.now.limits.now c.args.on.now.counts.now c.args.options.now c.args.reached c.nodes-nodes.ensures.net c.requires.limits c.requires.options c.requires.reached c.requires.budget

pub prove-unreachable-requires : goal.prove-unreachable-requires
prove-unreachable-requires c =
    let cut = c.in_ok-whole.ensures.cut c.if-prove.true in
    let walk = no-cut c.args.on.now.net.now c.args.on.now.limits.now c.args.on.now.counts.now c.args.options.now c.args.reached c.requires.reached cut.0 cut.1 in
    cut.2 walk.0 walk.1

pub fullest-fill-requires : goal.fullest-fill-requires
fullest-fill-requires c =
    let net = c.args.on.now.net.now in
    let is = c.requires.reached in
    let before = turns_after is.phases (length is.phases) in
    let p = c.in_ok-whole.ensures.phase c.if-prove.false before is.routed in
    ap (λ (xs : List ℕ). length xs) c.deref.ensures.value ∙ (size-of net (before ++ p.turns) c.phase.new.routed p.routed ∙ sym (ap (λ (xs : List Cell). length xs) c.cells.ensures.value))

pub bound_of-requires-clause-lengths : goal.bound_of-requires-clause-lengths
bound_of-requires-clause-lengths c =
    let is = c.requires.reached in
    let p = c.in_ok-whole.ensures.phase c.if-prove.false (turns_after is.phases (length is.phases)) is.routed in
    subst (λ (x : Network). AreLengths x.cells c.lengths.result.now) p.routed.net_is c.lengths.ensures.fits

pub bound_of-requires-clause-empty : goal.bound_of-requires-clause-empty
bound_of-requires-clause-empty c =
    let is = c.requires.reached in
    let p = c.in_ok-whole.ensures.phase c.if-prove.false (turns_after is.phases (length is.phases)) is.routed in
    subst (λ (x : Network). EmptyAreFar x.cells c.lengths.result.now) p.routed.net_is c.lengths.ensures.empty

pub returns-clause-reached : goal.returns-clause-reached
returns-clause-reached c =
    let net = c.args.on.now.net.now in
    let limits = c.args.on.now.limits.now in
    let o = c.args.options.now in
    let old = c.args.reached in
    let is = c.requires.reached in
    let before = turns_after is.phases (length is.phases) in
    let p = c.in_ok-whole.ensures.phase c.if-prove.false before is.routed in
    let all = before ++ p.turns in
    let same : c.phase.new.routed.table.setting ≡ old.routed.table.setting = c.phase.ensures.setting in
    let loads : c.deref.result.now ≡ loads_of net all = c.deref.ensures.value ∙ p.routed.loads in
    let fills : fullness c.fullest-fill.result ≡ fill net.cells (loads_of net all) = c.fullest-fill.ensures ∙ (ap (λ (cells : List Cell). fill cells c.deref.result.now) c.cells.ensures.value ∙ ap (fill net.cells) loads) in
    let lengths : c.lengths.result.now ≡ lengths_of net old.routed.table.setting (loads_of net all)
    = c.lengths.ensures.value ∙ lengths-then net all c.phase.new.routed p.routed ∙ ap (λ (s : Setting). lengths_of net s (loads_of net all)) same in
    let later = c.in_ok-later.later in
    let bound : IsHopBoundOf net limits (lengths_of net old.routed.table.setting (loads_of net all)) (hop_dual_of later) = subst (λ (ls : List ℕ). IsHopBoundOf net limits ls (hop_dual_of later)) lengths c.in_ok-later.ensures.dual in
    next-reached net limits c.args.on.now.counts.now o old _ later p.turns c.cells.ensures.net c.requires.limits c.requires.options is c.requires.unmet c.requires.budget p.phase p.routed same c.bound_of.ensures.finder fills refl bound c.in_ok-later.ensures.value
    c.lesser.ensures
