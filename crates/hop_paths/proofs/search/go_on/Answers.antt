use Rattle.std.proofs.Common.{arith, ◌+◌, ◌<◌, length}
use Rattle.dijkstra_paths.specs.Tree.{arc_at}
use Rattle.dijkstra_paths.proofs.Relaxed.{pass-inside}
use Rattle.hop_paths.proofs.Layering.{arcs-gone}
use Rattle.hop_paths.proofs.search.go_on.Goals as goal

pub relax-requires-clause-nodes : goal.relax-requires-clause-nodes
relax-requires-clause-nodes c =
    let arcs = c.out-arcs.result.now in
    let i = c.loop-arc.arc-index in
    let within : i < length arcs = omega arith in
    let a = arc_at arcs i in
    let inside = pass-inside c.args.graph.now a.cell c.args.node a.to c.out-arcs.ensures.net (c.out-arcs.ensures.over i (record { cell = 0; to = 0 }) within) in
    (omega arith, omega (arith, inside.0), omega (arith, inside.1, c.requires.lengths.count))

pub returns-clause-done : goal.returns-clause-done
returns-clause-done c = λ near.
    arcs-gone c.args.graph.now.cells c.args.lengths.now c.args.graph.now.nodes c.loop-arc.dist c.args.base c.args.node c.out-arcs.result.now
    (λ k l. omega (arith, c.loop-arc.invariant.done k (omega arith), c.loop-arc.invariant.front.dist (c.args.base + c.args.node) (omega arith))) c.out-arcs.ensures.each
