use Rattle.net_gen.proofs.Drawing.{ends_are, then_past}
use Rattle.net_gen.proofs.draws.draw_ends.Goals as goal

pub returns-clause-ends : goal.returns-clause-ends
returns-clause-ends c = ends_are _ _ _ _ _ c.below-source.ensures.value c.below-source.ensures.rest c.below-ahead.ensures.value

pub returns-clause-rest : goal.returns-clause-rest
returns-clause-rest c = then_past 1 1 _ _ _ c.below-source.ensures.rest c.below-ahead.ensures.rest
