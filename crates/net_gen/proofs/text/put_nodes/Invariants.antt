use Rattle.std.proofs.Common.{◌≡◌, ◌++◌}
use Rattle.std.specs.String.{string_bytes}
use Rattle.sndlib_grammar.specs.Canonical.{node_line}
use Rattle.net_gen.specs.Generated.{generated_node}
use Rattle.net_gen.proofs.Putting.{lines_below}
use Rattle.net_gen.proofs.text.put_nodes.Given as goal

abbrev pub invariant-loop-i : goal.invariant-loop-i
invariant-loop-i l = string_bytes l.text ≡ string_bytes l.fn.text ++ lines_below node_line generated_node l.i
