use Rattle.std.proofs.Common.{◌≡◌, ◌++◌}
use Rattle.std.specs.String.{string_bytes}
use Rattle.sndlib_grammar.specs.Canonical.{link_line}
use Rattle.net_gen.specs.Draws.{past}
use Rattle.net_gen.specs.Generated.{generated_names, generated_link, words_before_link}
use Rattle.net_gen.proofs.Putting.{lines_below}
use Rattle.net_gen.proofs.text.put_links.Given as goal

abbrev pub invariant-loop-i : goal.invariant-loop-i
invariant-loop-i l =
    record {
      lines : string_bytes l.text ≡ string_bytes l.fn.text ++ lines_below (link_line (generated_names l.nodes)) (λ i. generated_link (past (words_before_link l.nodes i) l.fn.draws) l.nodes i) l.i;
      rest : l.draws ≡ past (words_before_link l.nodes l.i) l.fn.draws;
    }
