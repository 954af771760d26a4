use Rattle.std.proofs.Common.{length, get_or, arith}
use Rattle.cut_bound.proofs.Leaving.{ending-small, span-small, starting-small}
use Rattle.cut_bound.proofs.sums.add_spans.Goals as goal

pub add_to-requires-clause-room : goal.add_to-requires-clause-room
add_to-requires-clause-room c =
    let at = c.span_of-span.result.low in
    let sum = starting-small (λ v. get_or c.args.ranks.now v 0) at c.args.cells.now c.loop-cell.cell-index in
    let part = span-small (λ v. get_or c.args.ranks.now v 0) (length c.args.ranks.now) c.args.cells.now c.loop-cell.cell-index _ c.span_of-span.result c.requires.cells c.loop-cell-test.true c.span_of-span.ensures in
    omega (arith, c.loop-cell.invariant.starts at, sum, part)

pub add_to-requires-in-loop-cell-clause-room : goal.add_to-requires-in-loop-cell-clause-room
add_to-requires-in-loop-cell-clause-room c =
    let at = c.span_of-span.result.high in
    let sum = ending-small (λ v. get_or c.args.ranks.now v 0) at c.args.cells.now c.loop-cell.cell-index in
    let part = span-small (λ v. get_or c.args.ranks.now v 0) (length c.args.ranks.now) c.args.cells.now c.loop-cell.cell-index _ c.span_of-span.result c.requires.cells c.loop-cell-test.true c.span_of-span.ensures in
    omega (arith, c.loop-cell.invariant.ends at, sum, part)
