use Rattle.net_gen.proofs.Networks.{drawn_is_network}
use Rattle.net_gen.proofs.draw_laws.drawn_networks_are_networks.Goals as goal

pub returns : goal.returns
returns c = drawn_is_network
