use Rattle.std.proofs.Common.{◌<◌, List, length, get_or, ap, ◌∙◌, arith}
use Rattle.sndlib_grammar.specs.Rows.{NetNode, no_node}
use Rattle.sndlib_rows.proofs.RowAt.{node_id_at}
use Rattle.sndlib_rows.proofs.net.RawNet.node_id.Goals as goal

pub returns : goal.returns
returns c =
    let ns = c.part.result.now.nodes.items in
    let lt : c.args.i < length ns = omega (arith, c.part.ensures.part.node_count, c.requires) in
    node_id_at ns c.args.i c.index.result.now lt c.index.ensures ∙ ap (λ (all : List NetNode). (get_or all c.args.i no_node).id) c.part.ensures.part.nodes
