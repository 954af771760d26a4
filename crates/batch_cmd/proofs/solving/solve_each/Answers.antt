use Rattle.std.proofs.Common.{rules}
use Rattle.batch_cmd.proofs.solving.solve_each.Goals as goal

pub call_each-requires-after_bounds : goal.call_each-requires-after_bounds
call_each-requires-after_bounds g c κs within i lt = ((search rules, search rules, c.requires i lt), (search rules, search rules))
