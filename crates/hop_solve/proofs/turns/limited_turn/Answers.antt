use Rattle.std.proofs.Common.{◌≡◌, ◌∙◌, ℕ, ◌<◌, ◌≤◌, List, length, Option, get_or, sym, ap, subst, arith}
use Rattle.std.specs.Prelude.{MatchOption}
use Rattle.std.proofs.lemmas.Option.{slice_get-get_or}
use Rattle.dijkstra_paths.specs.Searched.{dist_at, path_at, IsPath}
use Rattle.flow_model.specs.declared.net.Commodity.{Commodity}
use Rattle.flow_model.specs.Network.{Network, IsCommodity}
use Rattle.flow_model.specs.Lengths.{AreLengths}
use Rattle.flow_model.specs.Least.{IsLeast}
use Rattle.flow_model.proofs.Duality.{no_commodity}
use Rattle.hop_solve.specs.Turns.{lengths_then, Finds}
use Rattle.hop_solve.proofs.Finding.{short-finds}
use Rattle.hop_solve.proofs.turns.limited_turn.Goals as goal

pub turn_along-requires-clause-found : goal.turn_along-requires-clause-found
turn_along-requires-clause-found c =
    let on = c.args.on.now in
    let net = on.net.now in
    let limits = on.limits.now in
    let k = c.args.k in
    let commodity = get_or net.commodities k no_commodity in
    let lengths = c.lengths.result.now in
    let s = c.search.new.self in
    let fits : IsCommodity net.nodes commodity = c.commodities.ensures.net.commodities k no_commodity c.requires.k in
    let read : get_or c.commodities.result.now k no_commodity ≡ commodity = ap (λ (cs : List Commodity). get_or cs k no_commodity) c.commodities.ensures.value in
    let nodes : s.nodes ≡ net.nodes = c.search.ensures.nodes ∙ c.requires.plain in
    let long : AreLengths net.cells lengths = subst (λ (x : Network). AreLengths x.cells lengths) c.requires.room.routed.net_is c.lengths.ensures.fits in
    let to : commodity.to < s.nodes = omega (arith, fits.to, nodes) in
    let from = (get_or c.commodities.result.now k no_commodity).from in
    let least : IsLeast net.cells lengths commodity.from commodity.to (dist_at s commodity.to) =
    subst (λ (x : Commodity). IsLeast net.cells lengths x.from commodity.to (dist_at s commodity.to)) read
    (subst (λ (x : Network). IsLeast x.cells lengths from commodity.to (dist_at s commodity.to)) on.graph_is (c.search.ensures.least commodity.to to)) in
    let path : IsPath net.cells lengths s.nodes commodity.from commodity.to (dist_at s commodity.to) (path_at s commodity.to) =
    subst (λ (x : Commodity). IsPath net.cells lengths s.nodes x.from commodity.to (dist_at s commodity.to) (path_at s commodity.to)) read
    (subst (λ (x : Network). IsPath x.cells lengths s.nodes from commodity.to (dist_at s commodity.to) (path_at s commodity.to)) on.graph_is (c.search.ensures.paths commodity.to to)) in
    let same : path_at s (get_or c.commodities.result.now k no_commodity).to ≡ path_at s commodity.to = ap (λ (x : Commodity). path_at s x.to) read in
    let n = c.args.limit in
    let short : MatchOption (path_at s commodity.to) (Unit {0}) (λ walk. length walk ≤ n) = subst (λ (p : Option (List ℕ)). MatchOption p (Unit {0}) (λ walk. length walk ≤ n)) (c.path_to-found.ensures.value ∙ same) (c.is_short.ensures c.if-is_short.true) in
    let finds = short-finds net limits lengths s.nodes k n commodity (dist_at s commodity.to) (path_at s commodity.to) (slice_get-get_or net.commodities k no_commodity c.requires.k) long c.requires.limited least path short in
    subst (λ (p : Option (List ℕ)). Finds net limits (lengths_then c.args.routed.now) k p) (sym (c.path_to-found.ensures.value ∙ same))
    (subst (λ (ls : List ℕ). Finds net limits ls k (path_at s commodity.to)) c.lengths.ensures.value finds)
