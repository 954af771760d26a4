use Rattle.net_gen.proofs.Accepted.{text_scaled, text_accepted}
use Rattle.net_gen.proofs.draw_laws.drawn_networks_are_scaled.Goals as goal

pub returns-clause-network : goal.returns-clause-network
returns-clause-network c = text_scaled

pub returns-clause-accepted : goal.returns-clause-accepted
returns-clause-accepted c = text_accepted
