use Rattle.std.proofs.Common.{◌≡◌, take}
use Rattle.dual_bound.specs.Bounds.{cut_lengths}
use Rattle.hop_solve.proofs.bounds.lengths_of_cut.Given as goal

abbrev pub invariant-loop-cell : goal.invariant-loop-cell
invariant-loop-cell l = l.lengths.items ≡ cut_lengths (take l.cell-index l.cells)
