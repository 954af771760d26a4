use Rattle.unit_scale.proofs.CellSteps.{InCells}
use Rattle.unit_scale.proofs.cells.cells_of.Given as goal

abbrev pub invariant-loop-i : goal.invariant-loop-i
invariant-loop-i l = InCells l.fn.options l.decimals l.raw.links l.sizes l.i l.i-end l.unit l.cells.items
