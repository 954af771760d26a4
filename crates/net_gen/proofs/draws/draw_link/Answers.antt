use Rattle.net_gen.specs.Generated.{words_of_ends, words_of_capacity}
use Rattle.net_gen.proofs.Drawing.{capacity_is, then_past}
use Rattle.net_gen.proofs.draws.draw_link.Goals as goal

pub returns-clause-capacity : goal.returns-clause-capacity
returns-clause-capacity c = capacity_is _ _ c.args.nodes c.args.i _ c.ends_of_link-source.ensures.rest c.capacity_of_link-capacity.ensures.capacity

pub returns-clause-rest : goal.returns-clause-rest
returns-clause-rest c = then_past (words_of_ends c.args.nodes c.args.i) (words_of_capacity c.args.i) _ _ _ c.ends_of_link-source.ensures.rest c.capacity_of_link-capacity.ensures.rest
