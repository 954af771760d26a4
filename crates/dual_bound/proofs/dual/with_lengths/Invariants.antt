use Rattle.std.proofs.Common.{◌≡◌, take, []}
use Rattle.dual_bound.specs.Rows.{dual_of}
use Rattle.dual_bound.proofs.dual.with_lengths.Given as goal

abbrev pub invariant-loop-cell : goal.invariant-loop-cell
invariant-loop-cell l = l.dual ≡ dual_of (take l.cell l.lengths) []
