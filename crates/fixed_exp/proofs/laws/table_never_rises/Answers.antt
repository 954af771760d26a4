use Rattle.fixed_exp.proofs.PowerTable.{table_length, table_next}
use Rattle.fixed_exp.proofs.laws.table_never_rises.Goals as goal

pub returns-clause-count : goal.returns-clause-count
returns-clause-count c = table_length

pub returns-clause-falls : goal.returns-clause-falls
returns-clause-falls c = table_next
