use Rattle.std.proofs.Common.{List, ◌<◌, ap, arith, get_or, length}
use Rattle.std.proofs.lemmas.Option.{slice_get-get_or}
use Rattle.flow_model.specs.declared.net.Commodity.{Commodity}
use Rattle.dijkstra_paths.proofs.graph.Graph.first_cut.Goals as goal

pub returns : goal.returns
returns c = λ k d l.
    let inside : k < c.loop-k.k = omega (arith, ap (λ (xs : List Commodity). length xs) c.commodities-commodity-items.ensures.value) in
    c.loop-k.invariant.joined k (get_or c.args.net.now.commodities k d) inside (slice_get-get_or c.args.net.now.commodities k d l)
