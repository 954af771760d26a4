use Rattle.sndlib_grammar.specs.Canonical.{node_line}
use Rattle.net_gen.specs.Generated.{generated_node}
use Rattle.net_gen.proofs.Putting.{line_more}
use Rattle.net_gen.proofs.text.put_nodes.Goals as goal

pub loop-i-preserved : goal.loop-i-preserved
loop-i-preserved c = line_more node_line generated_node c.loop-i.i _ _ _ c.loop-i.invariant c.in_ok-put_node.ensures
