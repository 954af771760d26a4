use Rattle.std.proofs.Common.{arith, rules}
use Rattle.std.specs.Prelude.{IsTrue, slice_index_or}
use Rattle.phase_engine.proofs.Joining.{same-on}
use Rattle.phase_engine.proofs.Wholes.{phase_of}
use Rattle.phase_engine.proofs.phases.finish.Goals as goal

pub returns-clause-ok : goal.returns-clause-ok
returns-clause-ok c =
    let hands = c.gather-pass.new.hands in
    let works = c.gather-pass.result.0.view.hands in
    let went_on : IsTrue c.gather-pass.result.1 = search rules in
    phase_of _ c.gather-pass.result.0.seen hands works c.close.new.into c.requires.start c.gather-pass.ensures.works (c.gather-pass.ensures.stopped went_on) c.close.ensures

pub returns-then-not-whole-clause-back : goal.returns-then-not-whole-clause-back
returns-then-not-whole-clause-back c = λ k d l.
    same-on (slice_index_or c.args.hands.now k d) (slice_index_or c.gather-pass.new.hands k d) (slice_index_or c.clear_all.new.hands k d) (c.gather-pass.ensures.back k d (omega arith)).0 (c.clear_all.ensures.back k d (omega arith)).0
