use Rattle.std.proofs.Common.{◌-◌, arith}
use Rattle.std.proofs.Math.Nat.{one-le-pow}
use Rattle.mcf_limits.specs.declared.TheConstants.{MAX_DECIMALS}
use Rattle.unit_scale.proofs.sizes.unit_of.Goals as goal

pub returns-clause-some : goal.returns-clause-some
returns-clause-some c = rw c.pow.ensures (one-le-pow (MAX_DECIMALS - c.args.decimals) 10 (omega arith))
