use Rattle.net_gen.proofs.Drawing.{next_below, next_past}
use Rattle.net_gen.proofs.draws.below.Goals as goal

pub returns-clause-value : goal.returns-clause-value
returns-clause-value c = next_below _ _ _ _ _ c.next_word.ensures c.from.ensures

pub returns-clause-rest : goal.returns-clause-rest
returns-clause-rest c = next_past _ _ _ c.next_word.ensures
