use Rattle.std.proofs.Common.{refl, get_or, arith}
use Rattle.dual_bound.proofs.Assembling.{lengths-more}
use Rattle.dual_bound.proofs.dual.with_lengths.Goals as goal

pub loop-cell-preserved : goal.loop-cell-preserved
loop-cell-preserved c =
    let lengths = c.args.lengths.now in
    lengths-more lengths c.loop-cell.cell (get_or lengths c.loop-cell.cell 0) c.loop-cell.dual c.push_length.new.self (omega arith) refl c.loop-cell.invariant c.in_ok-push_length.ensures.ok
