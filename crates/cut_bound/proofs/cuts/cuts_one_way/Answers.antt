use Rattle.std.proofs.Common.{◌<◌, ◌∙◌, List, length, ap, arith}
use Rattle.std.proofs.lemmas.List.{get_or_default}
use Rattle.flow_model.specs.declared.net.Cell.{Cell}
use Rattle.cut_bound.specs.Sums.{leaving, node_side, total_capacity}
use Rattle.cut_bound.proofs.Leaving.{cells-total}
use Rattle.cut_bound.proofs.Levelling.{nodes-more}
use Rattle.cut_bound.proofs.cuts.cuts_one_way.Goals as goal

pub node_sums-requires-clause-total : goal.node_sums-requires-clause-total
node_sums-requires-clause-total c = omega (arith, ap total_capacity c.cells.ensures.value, cells-total c.args.net.now c.cells.ensures.net)

pub loop-node-preserved : goal.loop-node-preserved
loop-node-preserved c =
    let node = c.loop-node.node in
    let out = c.in_ok-leaving.leaving.items in
    let over = c.in_ok-crossing.crossing.items in
    let outs : node < length out = omega (arith, c.in_ok-leaving.ensures.len) in
    let overs : node < length over = omega (arith, c.in_ok-crossing.ensures.len) in
    nodes-more c.args.net.now.cells c.args.demands.now c.args.into node c.index.result.now c.index-in-loop-node.result.now c.loop-node.cuts.items c.push.new.self.items
    (c.index.ensures ∙ (get_or_default out node c.index.result.now 0 outs ∙ (c.in_ok-leaving.ensures.each node c.loop-node-test.true ∙ ap (λ (cs : List Cell). leaving (node_side c.args.into node) cs) c.cells.ensures.value)))
    (c.index-in-loop-node.ensures ∙ (get_or_default over node c.index-in-loop-node.result.now 0 overs ∙ c.in_ok-crossing.ensures.each node c.loop-node-test.true)) c.loop-node.invariant c.in_ok-push.ensures.items
