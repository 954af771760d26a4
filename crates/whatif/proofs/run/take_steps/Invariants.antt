use Rattle.std.proofs.Common.{◌≡◌, take}
use Rattle.mcf_base.specs.declared.writing.WriteFault.{WriteFault}
use Rattle.mcf_base.specs.Sink.{Wrote}
use Rattle.text_lines.specs.Writing.{ended}
use Rattle.whatif.specs.Planned.{after_steps}
use Rattle.whatif.specs.Shown.{shown_text}
use Rattle.whatif.proofs.run.take_steps.Given as goal

abbrev pub invariant-loop-step : goal.invariant-loop-step
invariant-loop-step g l =
    let sink = g.K.Sink in
    record {
      wrote : Wrote (sink.seen l.fn.out) (sink.seen l.out) (ended (Unit {0}) WriteFault tt) (shown_text l.mode l.fn.plan (take l.step-index l.steps));
      plan_is : l.plan ≡ after_steps l.mode l.fn.plan (take l.step-index l.steps);
    }
