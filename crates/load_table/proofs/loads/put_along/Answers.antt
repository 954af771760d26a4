use Rattle.std.proofs.Common.{arith}
use Rattle.load_table.proofs.Adding.{more_none, more_next}
use Rattle.load_table.proofs.loads.put_along.Goals as goal

pub loop-cell-init : goal.loop-cell-init
loop-cell-init c = record { words = more_none c.args.amount c.args.own.now }

pub loop-cell-preserved : goal.loop-cell-preserved
loop-cell-preserved c =
    let path = c.args.path.now in
    let i = c.loop-cell.cell-index in
    record { words = more_next c.args.amount path i c.args.own.now c.loop-cell.own (omega arith) c.requires.different (c.requires.inside i 0 (omega arith)) c.loop-cell.invariant.words }
