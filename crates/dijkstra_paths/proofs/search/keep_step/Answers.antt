use Rattle.std.proofs.Common.{◌+◌, arith, get_or, refl}
use Rattle.flow_model.specs.Walk.{PassesOver}
use Rattle.dijkstra_paths.proofs.Relaxed.{pass-inside, tree-relaxed}
use Rattle.dijkstra_paths.proofs.Opened.{pass-from}
use Rattle.dijkstra_paths.proofs.search.keep_step.Goals as goal

pub returns-then-there-dist-clause-tree : goal.returns-then-there-dist-clause-tree
returns-then-there-dist-clause-tree c =
    let net = c.args.graph.now in
    let step = c.args.step in
    let way : PassesOver net.cells step.cell step.from c.args.node = c.if-not-passes.ensures.way refl in
    let before = pass-from net step.cell step.from c.args.node c.passes.ensures.net way in
    let inside = pass-inside net step.cell step.from c.args.node c.passes.ensures.net way in
    tree-relaxed net.cells c.args.lengths.now c.args.from step.from c.args.dist.now c.args.steps.now step.cell c.args.node
    (get_or c.args.dist.now step.from 0 + get_or c.args.lengths.now step.cell 0) c.requires.lengths c.requires.tree
    (omega (arith, before, c.requires.nodes)) (omega (arith, inside.0, c.requires.nodes)) way refl c.if-there-dist.true
