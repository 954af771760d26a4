use Rattle.std.proofs.Common.{[], sym, subst}
use Rattle.route_tally.specs.Tally.{IsCollected}
use Rattle.route_tally.proofs.Adding.{collected_none}
use Rattle.route_tally.proofs.tally.Tally.new.Goals as goal

pub returns-clause-turns : goal.returns-clause-turns
returns-clause-turns c = subst (IsCollected []) (sym c.new.ensures) collected_none
