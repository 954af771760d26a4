use Rattle.std.proofs.Common.{arith, subst}
use Rattle.std.specs.Prelude.{OnOk, slice_index_or}
use Rattle.flow_core.specs.Core.{Terms}
use Rattle.phase_engine.specs.Routing.{IsRoutedPhase}
use Rattle.phase_engine.proofs.Joining.{same-on}
use Rattle.phase_engine.proofs.phases.phase.Goals as goal

pub returns-clause-ok : goal.returns-clause-ok
returns-clause-ok g c =
    let P : Terms → Type 0 = λ t. OnOk c.finish.result (IsRoutedPhase t.net t.setting t.base c.finish.new.loads c.finish.new.hands) in
    subst P c.requires.terms c.finish.ensures.ok

pub returns-clause-back : goal.returns-clause-back
returns-clause-back g c = λ k d l.
    same-on (slice_index_or c.args.hands.now k d) (slice_index_or c.hand_out.new.hands k d) (slice_index_or c.finish.new.hands k d) (c.hand_out.ensures.same k d l)
    (same-on (slice_index_or c.hand_out.new.hands k d) (slice_index_or c.run_all.new.hands k d) (slice_index_or c.finish.new.hands k d) (c.run_all.ensures k d (omega arith)).0 (c.finish.ensures.back k d (omega arith)))
