use Rattle.std.proofs.Common.{◌≡◌, ◌*◌, ◌≤◌, take}
use Rattle.mcf_limits.specs.declared.TheConstants.{MAX_LENGTH}
use Rattle.throughput.specs.Partial.{total_of}
use Rattle.throughput.proofs.amounts.total.Given as goal

abbrev pub invariant-loop-row : goal.invariant-loop-row
invariant-loop-row l = record {
  value : l.total ≡ total_of (take l.row l.paths);
  bound : l.total ≤ l.row * MAX_LENGTH;
}
