use Rattle.std.proofs.Common.{take}
use Rattle.mcf_base.specs.declared.writing.WriteFault.{WriteFault}
use Rattle.mcf_base.specs.Sink.{Wrote}
use Rattle.text_lines.specs.Writing.{ended}
use Rattle.text_lines.specs.Lines.{text_of}
use Rattle.sweep_cmd.proofs.Written.{lines}
use Rattle.sweep_cmd.proofs.lines.write_swept.Given as goal

abbrev pub invariant-loop-i : goal.invariant-loop-i
invariant-loop-i g l =
    let sink = g.K.Sink in
    Wrote (sink.seen l.fn.out) (sink.seen l.out) (ended (Unit {0}) WriteFault tt) (text_of (take l.i (lines (λ id. id.now) l.ids l.swept)))
