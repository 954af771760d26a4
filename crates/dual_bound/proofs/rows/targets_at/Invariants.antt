use Rattle.std.proofs.Common.{◌≡◌, map, take}
use Rattle.dual_bound.specs.Rows.{target_at}
use Rattle.dual_bound.proofs.rows.targets_at.Given as goal

abbrev pub invariant-loop-k : goal.invariant-loop-k
invariant-loop-k l = l.targets.items ≡ map (target_at l.commodities) (take l.k-index l.members)
