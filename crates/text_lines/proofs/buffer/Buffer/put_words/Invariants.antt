use Rattle.std.proofs.Common.{take}
use Rattle.std.specs.Prelude.{map}
use Rattle.mcf_base.specs.declared.writing.WriteFault.{WriteFault}
use Rattle.text_lines.specs.Writing.{Puts, ended}
use Rattle.text_lines.specs.Spelling.{behind}
use Rattle.text_lines.proofs.buffer.Buffer.put_words.Given as goal

abbrev pub invariant-loop-word : goal.invariant-loop-word
invariant-loop-word g l = Puts (g.K.Sink.seen l.fn.out) (g.K.Sink.seen l.out) l.fn.self l.self (ended (Unit {0}) WriteFault tt) (behind (map (λ w. w.now) (take l.word-index l.words)))
