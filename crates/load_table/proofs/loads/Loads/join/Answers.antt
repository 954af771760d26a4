use Rattle.std.proofs.Common.{rules}
use Rattle.load_table.proofs.Keeps.{joins}
use Rattle.load_table.proofs.loads.Loads.join.Goals as goal

pub join_seat-requires : goal.join_seat-requires
join_seat-requires c = (search rules, search rules, search rules, search rules, joins _ _ _ _ _ (search rules))
