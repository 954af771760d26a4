use Rattle.std.proofs.Common.{take, map}
use Rattle.mcf_base.specs.declared.writing.WriteFault.{WriteFault}
use Rattle.text_lines.specs.Lines.{text_of}
use Rattle.text_lines.specs.Writing.{Puts, ended}
use Rattle.sndlib_grammar.specs.Rows.{names_of_nodes}
use Rattle.sndlib_grammar.specs.Canonical.{link_line}
use Rattle.solve_cmd.proofs.canonical.put_links.Given as goal

abbrev pub invariant-loop-i : goal.invariant-loop-i
invariant-loop-i g l =
    let sink = g.K.Sink in
    Puts (sink.seen l.fn.out) (sink.seen l.out) l.fn.buffer l.buffer (ended (Unit {0}) WriteFault tt) (text_of (map (link_line (names_of_nodes l.raw)) (take l.i l.raw.links)))
