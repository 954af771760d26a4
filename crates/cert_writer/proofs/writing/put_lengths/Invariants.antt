use Rattle.std.proofs.Common.{take}
use Rattle.std.specs.Prelude.{map}
use Rattle.text_lines.specs.Lines.{text_of}
use Rattle.mcf_base.specs.declared.writing.WriteFault.{WriteFault}
use Rattle.text_lines.specs.Writing.{Puts, ended}
use Rattle.cert_lines.specs.Spelling.{length_words}
use Rattle.cert_writer.proofs.writing.put_lengths.Given as goal

abbrev pub invariant-loop-row : goal.invariant-loop-row
invariant-loop-row g l =
    let sink = g.K.Sink in
    Puts (sink.seen l.fn.out) (sink.seen l.out) l.fn.buffer l.buffer (ended (Unit {0}) WriteFault tt) (text_of (map (length_words l.names) (take l.row l.dual.lengths)))
