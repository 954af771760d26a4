use Rattle.std.proofs.Common.{◌≡◌, take}
use Rattle.dual_bound.specs.Rows.{weight_of}
use Rattle.dual_bound.proofs.value.weight.Given as goal

abbrev pub invariant-loop-row : goal.invariant-loop-row
invariant-loop-row l = l.total ≡ weight_of (take l.row-index l.rows)
