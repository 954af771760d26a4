use Rattle.std.proofs.Common.{◌≡◌, ◌∙◌, ℕ, ◌<◌, List, Option, None, get_or, sym, ap, subst, arith}
use Rattle.std.specs.Prelude.{IfSome, IsSomeAnd}
use Rattle.std.specs.Option.{option_map}
use Rattle.std.proofs.lemmas.Option.{slice_get-get_or}
use Rattle.flow_model.specs.declared.net.Commodity.{Commodity}
use Rattle.flow_model.specs.Network.{Network, IsCommodity}
use Rattle.flow_model.specs.Lengths.{AreLengths}
use Rattle.flow_model.proofs.Duality.{no_commodity}
use Rattle.hop_paths.specs.Allowed.{IsShortWalk, IsLeastOf}
use Rattle.hop_paths.specs.Searched.{hop_trail, layer_dist, layer_path, IsShortPath}
use Rattle.hop_solve.specs.Turns.{lengths_then, Finds}
use Rattle.hop_solve.proofs.Finding.{layered-finds}
use Rattle.hop_solve.proofs.turns.layered_turn.Goals as goal

pub turn_along-requires-clause-found : goal.turn_along-requires-clause-found
turn_along-requires-clause-found c =
    let on = c.args.on.now in
    let net = on.net.now in
    let limits = on.limits.now in
    let k = c.args.k in
    let n = c.args.limit in
    let commodity = get_or net.commodities k no_commodity in
    let lengths = c.lengths.result.now in
    let s = c.search.new.self in
    let fits : IsCommodity net.nodes commodity = c.commodities.ensures.net.commodities k no_commodity c.requires.k in
    let read : get_or c.commodities.result.now k no_commodity ≡ commodity = ap (λ (cs : List Commodity). get_or cs k no_commodity) c.commodities.ensures.value in
    let nodes : s.nodes ≡ net.nodes = c.search.ensures.nodes ∙ c.requires.nodes in
    let long : AreLengths net.cells lengths = subst (λ (x : Network). AreLengths x.cells lengths) c.requires.room.routed.net_is c.lengths.ensures.fits in
    let to : commodity.to < s.nodes = omega (arith, fits.to, nodes) in
    let from = (get_or c.commodities.result.now k no_commodity).from in
    let d = layer_dist s n commodity.to in
    let p = layer_path s n commodity.to in
    let least : IsLeastOf (IsShortWalk net.cells commodity.from commodity.to n) lengths d =
    subst (λ (x : Commodity). IsLeastOf (IsShortWalk net.cells x.from commodity.to n) lengths d) read
    (subst (λ (x : Network). IsLeastOf (IsShortWalk x.cells from commodity.to n) lengths d) on.graph_is (c.search.ensures.least n commodity.to (omega arith) to)) in
    let path : IfSome d (λ d. IsSomeAnd p (IsShortPath net.cells lengths commodity.from commodity.to n d)) =
    subst (λ (x : Commodity). IfSome d (λ d. IsSomeAnd p (IsShortPath net.cells lengths x.from commodity.to n d))) read
    (subst (λ (x : Network). IfSome d (λ d. IsSomeAnd p (IsShortPath x.cells lengths from commodity.to n d))) on.graph_is (c.search.ensures.paths n commodity.to (omega arith) to)) in
    let none : d ≡ None → p ≡ None = λ e. ap (option_map (λ _. hop_trail s.steps s.nodes n commodity.to)) e in
    let finds = layered-finds net limits lengths k n commodity d p (slice_get-get_or net.commodities k no_commodity c.requires.k) long c.requires.limited least none path in
    let same : layer_path s n (get_or c.commodities.result.now k no_commodity).to ≡ p = ap (λ (x : Commodity). layer_path s n x.to) read in
    subst (λ (o : Option (List ℕ)). Finds net limits (lengths_then c.args.routed.now) k o) (sym (c.path_to-found.ensures.value ∙ same))
    (subst (λ (ls : List ℕ). Finds net limits ls k p) c.lengths.ensures.value finds)
