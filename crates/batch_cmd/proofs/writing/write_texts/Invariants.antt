use Rattle.std.proofs.Common.{take}
use Rattle.mcf_base.specs.declared.writing.WriteFault.{WriteFault}
use Rattle.mcf_base.specs.Sink.{Wrote}
use Rattle.text_lines.specs.Writing.{ended}
use Rattle.batch_cmd.specs.Solves.{joined}
use Rattle.batch_cmd.proofs.writing.write_texts.Given as goal

abbrev pub invariant-loop-text : goal.invariant-loop-text
invariant-loop-text g l =
    let sink = g.K.Sink in
    Wrote (sink.seen l.fn.out) (sink.seen l.out) (ended (Unit {0}) WriteFault tt) (joined (take l.text-index l.texts))
