use Rattle.std.proofs.Common.{take}
use Rattle.load_table.specs.Adding.{AreMoreAlong}
use Rattle.load_table.proofs.loads.put_along.Given as goal

abbrev pub invariant-loop-cell : goal.invariant-loop-cell
invariant-loop-cell l = record { words : AreMoreAlong l.amount (take l.cell-index l.path) l.fn.own l.own }
