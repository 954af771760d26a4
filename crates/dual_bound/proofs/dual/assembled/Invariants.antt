use Rattle.std.proofs.Common.{◌≡◌, take}
use Rattle.dual_bound.specs.Rows.{dual_of}
use Rattle.dual_bound.proofs.dual.assembled.Given as goal

abbrev pub invariant-loop-row : goal.invariant-loop-row
invariant-loop-row l = l.dual ≡ dual_of l.lengths (take l.row-index l.rows)
