use Rattle.std.proofs.Common.{arith}
use Rattle.fixed_exp.proofs.Passes.{least_small, least_done}
use Rattle.gates.proofs.lengths.least_of.Goals as goal

pub loop-cell-init : goal.loop-cell-init
loop-cell-init c = record { least = omega (arith, least_small c.args.cells.now); small = omega arith }

pub returns : goal.returns
returns c = record { value = least_done c.args.cells.now c.loop-cell.cell-index c.loop-cell.least (omega arith) c.loop-cell.invariant.small c.loop-cell.invariant.least }
