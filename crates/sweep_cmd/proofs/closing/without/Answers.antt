use Rattle.std.proofs.Common.{◌∙◌}
use Rattle.sweep_cmd.proofs.Shutting.{closed_parts}
use Rattle.sweep_cmd.proofs.closing.without.Goals as goal

pub new-requires : goal.new-requires
new-requires c =
    closed_parts c.args.mode c.args.net.now c.args.link c.nodes.result c.cells.result.now c.in_ok-cells.cells.items c.in_ok-commodities.commodities.items c.nodes.ensures.net
    c.nodes.ensures.value c.cells.ensures.value c.in_ok-cells.ensures (c.in_ok-commodities.ensures.items ∙ c.commodities.ensures.value)
