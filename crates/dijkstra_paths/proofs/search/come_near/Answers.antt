use Rattle.std.proofs.Common.{arith}
use Rattle.dijkstra_paths.proofs.Opened.{nearer-way}
use Rattle.dijkstra_paths.proofs.search.come_near.Goals as goal

pub returns-then-way-dist-clause-tree : goal.returns-then-way-dist-clause-tree
returns-then-way-dist-clause-tree c =
    nearer-way c.args.graph.now c.args.lengths.now c.args.from c.args.kept.node c.args.dist.now c.args.steps.now c.shortest_way-way.result c.nodes.ensures.net
    c.requires.lengths c.requires.both c.requires.nodes c.requires.tree (omega arith) c.shortest_way-way.ensures c.if-way-dist.true
