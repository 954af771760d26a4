use Rattle.std.proofs.Common.{arith}
use Rattle.hop_check.proofs.rise.are_next.Goals as goal

pub node_rises-requires-clause-placed : goal.node_rises-requires-clause-placed
node_rises-requires-clause-placed c = λ i l. c.requires.placed c.loop-node.node i (omega (arith, c.nodes-node-end.ensures.value)) l
