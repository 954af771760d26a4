use Rattle.matrix_batch.proofs.Unique.{list_once}
use Rattle.matrix_batch.proofs.grammar_laws.symbols_are_one_list.Goals as goal

pub returns : goal.returns
returns c = list_once
