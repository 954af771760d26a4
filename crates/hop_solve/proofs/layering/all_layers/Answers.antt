use Rattle.hop_solve.specs.Numbers.{IsNumber, asked_of}
use Rattle.hop_solve.proofs.Appending.{places-more, each-more}
use Rattle.hop_solve.proofs.layering.all_layers.Goals as goal

pub loop-node-preserved : goal.loop-node-preserved
loop-node-preserved c =
    let net = c.args.on.now.net.now in
    let limits = c.args.on.now.limits.now in
    let Q = IsNumber c.args.kind net.cells c.args.lengths.now in
    let v = c.loop-node.node in
    let old = c.loop-node.layers in
    let new = c.node_layers.new.layers in
    record {
      finder = c.node_layers.ensures.finder;
      places = places-more net limits v old new Q c.in_ok-node_layers.ensures.layers c.loop-node.invariant.places;
      each = each-more net.nodes Q (asked_of net limits v) old new c.in_ok-node_layers.ensures.layers c.loop-node.invariant.each;
    }
