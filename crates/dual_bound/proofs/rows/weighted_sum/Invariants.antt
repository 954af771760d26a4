use Rattle.std.proofs.Common.{◌≡◌, ◌*◌, ◌≤◌, take}
use Rattle.std.specs.List.{sum_by}
use Rattle.mcf_limits.specs.declared.TheConstants.{MAX_LENGTH}
use Rattle.dual_bound.specs.Rows.{weighted_from}
use Rattle.dual_bound.proofs.rows.weighted_sum.Given as goal

abbrev pub invariant-loop-target : goal.invariant-loop-target
invariant-loop-target l = record {
  value : l.total ≡ weighted_from l.source l.values (take l.target-index l.targets);
  bound : l.total ≤ MAX_LENGTH * sum_by (λ t. t.amount) (take l.target-index l.targets);
}
