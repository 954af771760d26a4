use Rattle.net_gen.proofs.Networks.{cells_count, commodities_count, amounts_are}
use Rattle.net_gen.proofs.draw_laws.drawn_networks_have_counts.Goals as goal

pub returns-clause-cells : goal.returns-clause-cells
returns-clause-cells c = cells_count

pub returns-clause-commodities : goal.returns-clause-commodities
returns-clause-commodities c = commodities_count

pub returns-clause-amounts : goal.returns-clause-amounts
returns-clause-amounts c = amounts_are
