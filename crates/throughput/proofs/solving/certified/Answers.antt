use Rattle.std.proofs.Common.{Option, subst}
use Rattle.std.specs.Prelude.{MatchOption}
use Rattle.throughput.specs.declared.part_proof.PartDual.{PartDual}
use Rattle.throughput.specs.Run.{HasNoWalk, IsPartBoundOf}
use Rattle.throughput.specs.Loaded.{lengths_under}
use Rattle.throughput.proofs.Measuring.{IsSound, loaded-sound}
use Rattle.throughput.proofs.PartEnding.{priced-walk}
use Rattle.throughput.proofs.solving.certified.Goals as goal

pub all_phases-requires-clause-low : goal.all_phases-requires-clause-low
all_phases-requires-clause-low c =
    let on = c.args.on.now in
    let net = on.net.now in
    let s = c.in_ok-loaded.loaded in
    let setting = c.setting_at_first-setting.result in
    let xs = lengths_under net on.gates.now setting s in
    let bound : IsPartBoundOf net xs c.in-Some.bound = subst (λ (o : Option PartDual). MatchOption o (HasNoWalk net) (IsPartBoundOf net xs)) c.in-Some.is c.in_ok-bound.ensures.bound in
    let sound : IsSound net c.in-Some.bound = loaded-sound net on.gates.now on.least setting s c.in-Some.bound c.requires.on (_, c.in_ok-loaded.ensures.loaded) bound in
    sound.limit

pub finished-requires-clause-some : goal.finished-requires-clause-some
finished-requires-clause-some c =
    let on = c.args.on.now in
    let net = on.net.now in
    let xs = lengths_under net on.gates.now c.setting_at_first-setting.result c.in_ok-loaded.loaded in
    let bound : IsPartBoundOf net xs c.in-Some.bound = subst (λ (o : Option PartDual). MatchOption o (HasNoWalk net) (IsPartBoundOf net xs)) c.in-Some.is c.in_ok-bound.ensures.bound in
    priced-walk net xs c.in-Some.bound.threshold bound.threshold
