use Rattle.hop_check.proofs.AskedRows.{next-bound}
use Rattle.hop_check.proofs.rows.layers_bound.Goals as goal

pub returns : goal.returns
returns c = λ limits are. next-bound c.args.net.now limits c.args.counts.now c.args.lengths.now c.args.layers.now c.are_next.result c.nodes-nodes.ensures.net are c.are_next.ensures
