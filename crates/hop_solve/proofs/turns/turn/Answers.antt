use Rattle.std.proofs.Common.{get_or, arith}
use Rattle.std.proofs.lemmas.Option.{slice_get-get_or}
use Rattle.flow_model.specs.Network.{IsCommodity}
use Rattle.flow_model.proofs.Duality.{no_commodity}
use Rattle.hop_solve.proofs.Turned.{limit-below}
use Rattle.hop_solve.proofs.turns.turn.Goals as goal

pub limited_turn-requires-clause-layers : goal.limited_turn-requires-clause-layers
limited_turn-requires-clause-layers c =
    let on = c.args.on.now in
    let net = on.net.now in
    let k = c.args.k in
    let commodity = get_or net.commodities k no_commodity in
    let fits : IsCommodity net.nodes commodity = c.nodes-nodes.ensures.net.commodities k no_commodity c.requires.k in
    let below = limit-below net on.limits.now on.counts.now k c.in-Some.limit commodity on.counts_are (slice_get-get_or net.commodities k no_commodity c.requires.k) fits.from c.in-Some.is in
    omega (arith, below, c.requires.finder.layers commodity.from fits.from)
