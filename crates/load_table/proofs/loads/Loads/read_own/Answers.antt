use Rattle.std.proofs.Common.{rules}
use Rattle.load_table.proofs.Alone.{all_read}
use Rattle.load_table.proofs.loads.Loads.read_own.Goals as goal

pub load-requires : goal.load-requires
load-requires c = (search rules, search rules, all_read c.self.inside.table.shared.key _ _ _ (search rules) (search rules) (search rules))
