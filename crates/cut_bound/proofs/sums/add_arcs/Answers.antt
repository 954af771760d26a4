use Rattle.std.proofs.Common.{eqb, arith}
use Rattle.cut_bound.proofs.Leaving.{arc-small, cond-small, node-small}
use Rattle.cut_bound.proofs.sums.add_arcs.Goals as goal

pub add_to-requires-clause-room : goal.add_to-requires-clause-room
add_to-requires-clause-room c =
    let at = c.arc_of-arc.result.from in
    let sum = node-small c.args.into at c.args.cells.now c.loop-cell.cell-index in
    let part = arc-small c.args.into _ c.args.cells.now c.loop-cell.cell-index _ c.arc_of-arc.result c.requires.cells c.loop-cell-test.true c.arc_of-arc.ensures in
    omega (arith, c.loop-cell.invariant at, part.0, part.1)

pub add_to-requires-in-loop-cell-clause-room : goal.add_to-requires-in-loop-cell-clause-room
add_to-requires-in-loop-cell-clause-room c =
    let at = c.arc_of-arc.result.to in
    let sum = node-small c.args.into at c.args.cells.now c.loop-cell.cell-index in
    let part = arc-small c.args.into _ c.args.cells.now c.loop-cell.cell-index _ c.arc_of-arc.result c.requires.cells c.loop-cell-test.true c.arc_of-arc.ensures in
    let here = cond-small (eqb c.arc_of-arc.result.from at) c.arc_of-arc.result.amount in
    omega (arith, c.loop-cell.invariant at, c.add_to.ensures at, part.0, part.1, here)
