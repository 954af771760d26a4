use Rattle.std.proofs.Common.{arith}
use Rattle.dijkstra_paths.proofs.Opened.{tree-first}
use Rattle.dijkstra_paths.proofs.search.begin.Goals as goal

pub keep_steps-requires-clause-tree : goal.keep_steps-requires-clause-tree
keep_steps-requires-clause-tree c = tree-first c.args.graph.now.cells c.args.lengths.now c.args.from c.clear.new.dist c.args.steps.now (omega (arith, c.requires.steps)) (omega (arith, c.requires.nodes)) c.clear.ensures
