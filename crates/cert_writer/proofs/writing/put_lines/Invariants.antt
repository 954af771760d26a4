use Rattle.std.proofs.Common.{take}
use Rattle.std.specs.Prelude.{map}
use Rattle.text_lines.specs.Lines.{text_of}
use Rattle.mcf_base.specs.declared.writing.WriteFault.{WriteFault}
use Rattle.text_lines.specs.Writing.{Puts, ended}
use Rattle.cert_writer.proofs.writing.put_lines.Given as goal

abbrev pub invariant-loop-line : goal.invariant-loop-line
invariant-loop-line g l =
    let sink = g.K.Sink in
    Puts (sink.seen l.fn.out) (sink.seen l.out) l.fn.buffer l.buffer (ended (Unit {0}) WriteFault tt) (text_of (map (λ l. map (λ w. w.now) l.now) (take l.line-index l.lines)))
