use Rattle.std.proofs.Common.{take}
use Rattle.std.specs.Prelude.{map}
use Rattle.text_lines.specs.Lines.{text_of}
use Rattle.mcf_base.specs.declared.writing.WriteFault.{WriteFault}
use Rattle.text_lines.specs.Writing.{Puts, ended}
use Rattle.kind_texts.specs.HopsText.{layer_words}
use Rattle.kind_texts.proofs.hops_writer.put_layers.Given as goal

abbrev pub invariant-loop-row : goal.invariant-loop-row
invariant-loop-row g l =
    let sink = g.K.Sink in
    Puts (sink.seen l.fn.out) (sink.seen l.out) l.fn.buffer l.buffer (ended (Unit {0}) WriteFault tt) (text_of (map (layer_words l.names) (take l.row l.layers)))
