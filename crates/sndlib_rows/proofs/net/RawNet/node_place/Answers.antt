use Rattle.std.proofs.Common.{ℕ, ◌<◌, List, length, get_or, ap, sym, ◌∙◌, arith, Some, Bor}
use Rattle.std.specs.Prelude.{map}
use Rattle.std.specs.Option.{option_map}
use Rattle.sndlib_grammar.specs.Rows.{NetNode, no_node}
use Rattle.sndlib_rows.specs.Views.{slices_view}
use Rattle.sndlib_rows.proofs.RowAt.{node_place_at}
use Rattle.sndlib_rows.proofs.net.RawNet.node_place.Goals as goal

pub returns-in-None : goal.returns-in-None
returns-in-None c =
    let ns = c.part.result.now.nodes.items in
    let lt : c.args.i < length ns = omega (arith, c.part.ensures.part.node_count, c.requires) in
    ap (option_map slices_view) (sym c.in-None.is) ∙ node_place_at ns c.args.i c.index-node.result.now lt c.index-node.ensures
    ∙ ap (λ (all : List NetNode). (get_or all c.args.i no_node).place) c.part.ensures.part.nodes

pub returns-in-Some : goal.returns-in-Some
returns-in-Some c =
    let ns = c.part.result.now.nodes.items in
    let lt : c.args.i < length ns = omega (arith, c.part.ensures.part.node_count, c.requires) in
    ap (λ (ws : List (Bor (List ℕ))). Some (map (λ w. w.now) ws)) c.as_slice.ensures.value ∙ ap (option_map slices_view) (sym c.in-Some.is)
    ∙ node_place_at ns c.args.i c.index-node.result.now lt c.index-node.ensures
    ∙ ap (λ (all : List NetNode). (get_or all c.args.i no_node).place) c.part.ensures.part.nodes
