use Rattle.std.proofs.Common.{Option, subst}
use Rattle.std.specs.Prelude.{MatchOption}
use Rattle.throughput.specs.declared.part_proof.PartDual.{PartDual}
use Rattle.throughput.specs.Run.{HasNoWalk, IsPartBoundOf}
use Rattle.throughput.specs.Loaded.{lengths_under}
use Rattle.throughput.proofs.Measuring.{IsSound, loaded-sound, none-and-some}
use Rattle.throughput.proofs.steps.bounded.Goals as goal

pub value_of-requires-clause-threshold : goal.value_of-requires-clause-threshold
value_of-requires-clause-threshold c =
    let on = c.args.on.now in
    let net = on.net.now in
    let xs = lengths_under net on.gates.now c.args.setting.now c.args.loaded.now in
    let b = c.in-Some.bound in
    let bound : IsPartBoundOf net xs b = subst (λ (o : Option PartDual). MatchOption o (HasNoWalk net) (IsPartBoundOf net xs)) c.in-Some.is c.in_ok-bound.ensures.bound in
    let sound : IsSound net b = loaded-sound net on.gates.now on.least c.args.setting.now c.args.loaded.now b c.requires.on c.requires.loaded bound in
    sound.limit

pub value_of-requires-clause-positive : goal.value_of-requires-clause-positive
value_of-requires-clause-positive c =
    let on = c.args.on.now in
    let net = on.net.now in
    let xs = lengths_under net on.gates.now c.args.setting.now c.args.loaded.now in
    let b = c.in-Some.bound in
    let bound : IsPartBoundOf net xs b = subst (λ (o : Option PartDual). MatchOption o (HasNoWalk net) (IsPartBoundOf net xs)) c.in-Some.is c.in_ok-bound.ensures.bound in
    let sound : IsSound net b = loaded-sound net on.gates.now on.least c.args.setting.now c.args.loaded.now b c.requires.on c.requires.loaded bound in
    sound.positive

pub value_of-requires-clause-shows : goal.value_of-requires-clause-shows
value_of-requires-clause-shows c =
    let on = c.args.on.now in
    let net = on.net.now in
    let xs = lengths_under net on.gates.now c.args.setting.now c.args.loaded.now in
    let b = c.in-Some.bound in
    let bound : IsPartBoundOf net xs b = subst (λ (o : Option PartDual). MatchOption o (HasNoWalk net) (IsPartBoundOf net xs)) c.in-Some.is c.in_ok-bound.ensures.bound in
    let sound : IsSound net b = loaded-sound net on.gates.now on.least c.args.setting.now c.args.loaded.now b c.requires.on c.requires.loaded bound in
    sound.shows

pub unreachable-requires : goal.unreachable-requires
unreachable-requires c =
    let on = c.args.on.now in
    let net = on.net.now in
    let xs = lengths_under net on.gates.now c.args.setting.now c.args.loaded.now in
    let none : HasNoWalk net = subst (λ (o : Option PartDual). MatchOption o (HasNoWalk net) (IsPartBoundOf net xs)) c.in-None.is c.in_ok-bound.ensures.bound in
    none-and-some net none c.requires.some

pub returns-clause-threshold : goal.returns-clause-threshold
returns-clause-threshold c =
    let on = c.args.on.now in
    let net = on.net.now in
    let xs = lengths_under net on.gates.now c.args.setting.now c.args.loaded.now in
    let b = c.in-Some.bound in
    let bound : IsPartBoundOf net xs b = subst (λ (o : Option PartDual). MatchOption o (HasNoWalk net) (IsPartBoundOf net xs)) c.in-Some.is c.in_ok-bound.ensures.bound in
    let sound : IsSound net b = loaded-sound net on.gates.now on.least c.args.setting.now c.args.loaded.now b c.requires.on c.requires.loaded bound in
    (sound.positive, sound.limit)
