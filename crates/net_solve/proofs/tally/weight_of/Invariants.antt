use Rattle.std.proofs.Common.{◌≡◌, ◌*◌, ◌≤◌, take}
use Rattle.std.specs.List.{sum_by}
use Rattle.net_solve.proofs.tally.weight_of.Given as goal
use Rattle.mcf_limits.specs.declared.TheConstants.{MAX_LENGTH}

abbrev pub invariant-loop-row : goal.invariant-loop-row
invariant-loop-row l = record {
  value : l.total ≡ sum_by (λ r. r.weight) (take l.row l.paths);
  bound : l.total ≤ l.row * MAX_LENGTH;
}
