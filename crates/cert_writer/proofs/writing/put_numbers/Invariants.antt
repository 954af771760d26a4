use Rattle.std.proofs.Common.{take}
use Rattle.std.specs.Prelude.{map}
use Rattle.std.specs.Fmt.{decimal}
use Rattle.mcf_base.specs.declared.writing.WriteFault.{WriteFault}
use Rattle.text_lines.specs.Writing.{Puts, ended}
use Rattle.text_lines.specs.Spelling.{behind}
use Rattle.cert_writer.proofs.writing.put_numbers.Given as goal

abbrev pub invariant-loop-number : goal.invariant-loop-number
invariant-loop-number g l =
    let sink = g.K.Sink in
    Puts (sink.seen l.fn.out) (sink.seen l.out) l.fn.buffer l.buffer (ended (Unit {0}) WriteFault tt) (behind (map decimal (take l.number-index l.numbers)))
