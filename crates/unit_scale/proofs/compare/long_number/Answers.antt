use Rattle.std.proofs.Common.{refl}
use Rattle.unit_scale.proofs.Greatest.{long_is}
use Rattle.unit_scale.proofs.compare.long_number.Goals as goal

pub returns-clause-long : goal.returns-clause-long
returns-clause-long c =
    long_is (record { whole = c.args.number.now.whole; fraction = c.args.number.now.fraction; zeros = c.saturating_sub.result; cut = c.saturating_sub-2.result }) c.args.number.now c.requires refl refl c.saturating_sub.ensures c.saturating_sub-2.ensures
