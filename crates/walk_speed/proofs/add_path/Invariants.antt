use Rattle.std.proofs.Common.{◌≤◌, All}
use Rattle.mcf_limits.specs.declared.TheConstants.{MAX_LENGTH}
use Rattle.walk_speed.proofs.add_path.Given as goal

abbrev pub invariant-loop-cell : goal.invariant-loop-cell
invariant-loop-cell l = All (λ x. x ≤ MAX_LENGTH) l.loads
