use Rattle.std.proofs.Common.{rules}
use Rattle.load_table.proofs.Keeps.{splits}
use Rattle.load_table.proofs.loads.Loads.split.Goals as goal

pub split_seat-seat-requires : goal.split_seat-seat-requires
split_seat-seat-requires c = (search rules, search rules, splits _ _ _ (search rules) (search rules))
