use Rattle.std.proofs.Common.{arith}
use Rattle.unit_scale.proofs.Greatest.{past_kept}
use Rattle.unit_scale.proofs.compare.digit_at.Goals as goal

pub returns-then-behind-kept_digits : goal.returns-then-behind-kept_digits
returns-then-behind-kept_digits c = past_kept c.args.number.now c.args.place c.requires (omega arith) (omega arith)
