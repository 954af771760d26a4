use Rattle.std.proofs.Common.{◌≡◌, ℕ, ◌+◌, ◌<◌, ◌≤◌, max, List, get_or, length, Option, Some, None, sym, ap, subst, ◌∙◌, arith, refl}
use Rattle.std.specs.Prelude.{slice_get}
use Rattle.std.specs.Option.{option_map}
use Rattle.std.specs.Borrow.{Bor}
use Rattle.std.proofs.lemmas.Option.{slice_get-get_or}
use Rattle.std.proofs.lemmas.Result.{on_ok_weaker}
use Rattle.mcf_limits.specs.declared.TheConstants.{MAX_LENGTH}
use Rattle.flow_model.specs.declared.net.Commodity.{Commodity}
use Rattle.flow_model.specs.Network.{Network, IsCommodity}
use Rattle.flow_model.specs.Routing.{Row}
use Rattle.flow_model.specs.Least.{IsLeast}
use Rattle.flow_model.specs.Lengths.{AreLengths, exponent, length_at}
use Rattle.fixed_exp.specs.Kept.{cell_at}
use Rattle.dijkstra_paths.specs.Searched.{dist_at, path_at, IsPath}
use Rattle.gates.specs.declared.lengths.Under.{Under}
use Rattle.throughput.specs.Loaded.{lengths_under, no_commodity}
use Rattle.throughput.proofs.Loading.{gates-long, gates-small}
use Rattle.throughput.proofs.Turning.{lengths-fit, lengths-long, lengths-split, gate_lengths, gate-least, gate-top, length-small, IsFoundPath, path-found, price-now, far-turn, dear-turn, routed-turn, turned-none, turned-some}
use Rattle.throughput.proofs.turns.turn.Goals as goal

pub search-requires-clause-lengths : goal.search-requires-clause-lengths
search-requires-clause-lengths c =
    let on = c.args.on.now in
    subst (λ (n : Network). AreLengths n.cells c.args.lengths.now) (sym on.graph_is) (lengths-fit on.net.now on.gates.now on.least c.args.loaded.now c.args.tops.now c.args.lengths.now c.requires.on c.requires.loaded c.requires.follow)

pub returns-in-None-clause-turned : goal.returns-in-None-clause-turned
returns-in-None-clause-turned c =
    let on = c.args.on.now in
    let net = on.net.now in
    let k = c.args.k in
    let s = c.args.loaded.now in
    let setting = c.args.tops.now.setting in
    let lengths = c.args.lengths.now in
    let cs = c.commodities-commodities.result.now in
    let same : cs ≡ net.commodities = c.commodities-commodities.ensures.value in
    let commodity : Commodity = get_or cs k no_commodity in
    let inside : k < length cs = omega (arith, c.requires.k, ap (λ (xs : List Commodity). length xs) same) in
    let at : slice_get net.commodities k ≡ Some commodity = ap (λ (xs : List Commodity). slice_get xs k) (sym same) ∙ slice_get-get_or cs k no_commodity inside in
    let named : IsCommodity net.nodes commodity = subst (λ (xs : List Commodity). IsCommodity net.nodes (get_or xs k no_commodity)) (sym same) (c.requires.on.network.commodities k no_commodity c.requires.k) in
    let to : commodity.to < c.search.new.self.nodes = omega (arith, named.to, c.search.ensures.nodes, c.requires.nodes) in
    let least : IsLeast net.cells lengths commodity.from commodity.to (dist_at c.search.new.self commodity.to) =
    subst (λ (n : Network). IsLeast n.cells lengths commodity.from commodity.to (dist_at c.search.new.self commodity.to)) on.graph_is (c.search.ensures.least commodity.to to) in
    let none : IsLeast net.cells lengths commodity.from commodity.to None =
    subst (λ (o : Option ℕ). IsLeast net.cells lengths commodity.from commodity.to o) (sym c.dist.ensures.value ∙ c.in-None.is) least in
    turned-none net on.gates.now setting c.args.most k s (far-turn net lengths (lengths_under net on.gates.now setting s) c.args.most k commodity at none)

pub bounds-as_slice-k : goal.bounds-as_slice-k
bounds-as_slice-k c =
    let has = c.requires.loaded in
    omega (arith, c.requires.k, gates-long c.args.on.now.net.now has.0 c.args.loaded.now has.1, ap (λ (xs : List ℕ). length xs) c.as_slice.ensures.value)

pub length_of-gate-requires-clause-least : goal.length_of-gate-requires-clause-least
length_of-gate-requires-clause-least c = λ some.
    let on = c.args.on.now in
    omega (arith, ap (λ (u : Under). u.least) c.under.ensures, gate-least on.net.now on.gates.now on.least c.args.k c.requires.on c.requires.k some)

pub length_of-gate-requires-clause-load : goal.length_of-gate-requires-clause-load
length_of-gate-requires-clause-load c =
    let has = c.requires.loaded in
    let s = c.args.loaded.now in
    let net = c.args.on.now.net.now in
    subst (λ (xs : List ℕ). get_or xs c.args.k 0 ≤ MAX_LENGTH) (sym c.as_slice.ensures.value)
    (gates-small net s MAX_LENGTH has (omega (arith, c.requires.room)) c.args.k 0 (omega (arith, c.requires.k, gates-long net has.0 s has.1)))

pub length_of-gate-requires-clause-top : goal.length_of-gate-requires-clause-top
length_of-gate-requires-clause-top c =
    let on = c.args.on.now in
    let k = c.args.k in
    let load : get_or c.as_slice.result.now k 0 ≡ get_or c.args.loaded.now.gates.items k 0 = ap (λ (xs : List ℕ). get_or xs k 0) c.as_slice.ensures.value in
    let high = gate-top on.net.now on.gates.now on.least c.args.loaded.now c.args.tops.now c.args.lengths.now k c.requires.on c.requires.loaded c.requires.follow c.requires.k in
    subst (λ (u : Under). exponent u.setting (cell_at on.gates.now k) (get_or c.as_slice.result.now k 0) ≤ u.top) (sym c.under.ensures)
    (subst (λ (x : ℕ). exponent c.args.tops.now.setting (cell_at on.gates.now k) x ≤ max c.args.tops.now.cells c.args.tops.now.gates) (sym load) high)

pub overflow_add-distance : goal.overflow_add-distance
overflow_add-distance c =
    let on = c.args.on.now in
    let u = c.under.result in
    let k = c.args.k in
    let far : c.in-Some.distance < MAX_LENGTH = c.in-Some.ensures.limit in
    let low : 1 ≤ (cell_at on.gates.now k).cap → u.least ≤ (cell_at on.gates.now k).cap = λ some. omega (arith, ap (λ (v : Under). v.least) c.under.ensures, gate-least on.net.now on.gates.now on.least k c.requires.on c.requires.k some) in
    let gate = length-small u.setting u.top u.least (cell_at on.gates.now k) (get_or c.as_slice.result.now k 0) low in
    omega (arith, far, gate, c.length_of-gate.ensures)

pub returns-then-distance-gate-clause-turned : goal.returns-then-distance-gate-clause-turned
returns-then-distance-gate-clause-turned c =
    let on = c.args.on.now in
    let net = on.net.now in
    let k = c.args.k in
    let s = c.args.loaded.now in
    let tops = c.args.tops.now in
    let lengths = c.args.lengths.now in
    let cs = c.commodities-commodities.result.now in
    let same : cs ≡ net.commodities = c.commodities-commodities.ensures.value in
    let commodity : Commodity = get_or cs k no_commodity in
    let inside : k < length cs = omega (arith, c.requires.k, ap (λ (xs : List Commodity). length xs) same) in
    let at : slice_get net.commodities k ≡ Some commodity = ap (λ (xs : List Commodity). slice_get xs k) (sym same) ∙ slice_get-get_or cs k no_commodity inside in
    let named : IsCommodity net.nodes commodity = subst (λ (xs : List Commodity). IsCommodity net.nodes (get_or xs k no_commodity)) (sym same) (c.requires.on.network.commodities k no_commodity c.requires.k) in
    let to : commodity.to < c.search.new.self.nodes = omega (arith, named.to, c.search.ensures.nodes, c.requires.nodes) in
    let d = c.in-Some.distance in
    let dist_is : dist_at c.search.new.self commodity.to ≡ Some d = sym c.dist.ensures.value ∙ c.in-Some.is in
    let least : IsLeast net.cells lengths commodity.from commodity.to (Some d) =
    subst (λ (o : Option ℕ). IsLeast net.cells lengths commodity.from commodity.to o) dist_is
    (subst (λ (n : Network). IsLeast n.cells lengths commodity.from commodity.to (dist_at c.search.new.self commodity.to)) on.graph_is (c.search.ensures.least commodity.to to)) in
    let g = c.length_of-gate.result in
    let load : get_or c.as_slice.result.now k 0 ≡ get_or s.gates.items k 0 = ap (λ (xs : List ℕ). get_or xs k 0) c.as_slice.ensures.value in
    let g_is : g ≡ length_at tops.setting (max tops.cells tops.gates) on.least (cell_at on.gates.now k) (get_or s.gates.items k 0) =
    c.length_of-gate.ensures ∙ (ap (λ (u : Under). length_at u.setting u.top u.least (cell_at on.gates.now k) (get_or c.as_slice.result.now k 0)) c.under.ensures
    ∙ ap (λ (x : ℕ). length_at tops.setting (max tops.cells tops.gates) on.least (cell_at on.gates.now k) x) load) in
    let price = price-now net on.gates.now on.least s tops lengths k d g commodity c.requires.on c.requires.loaded c.requires.follow at least g_is in
    let dear : c.args.most < d + g = omega arith in
    turned-none net on.gates.now tops.setting c.args.most k s (dear-turn net (lengths_under net on.gates.now tops.setting s) c.args.most k (d + g) price dear)

pub route-requires-clause-inside : goal.route-requires-clause-inside
route-requires-clause-inside c =
    let on = c.args.on.now in
    let net = on.net.now in
    let k = c.args.k in
    let s = c.args.loaded.now in
    let tops = c.args.tops.now in
    let lengths = c.args.lengths.now in
    let cs = c.commodities-commodities.result.now in
    let same : cs ≡ net.commodities = c.commodities-commodities.ensures.value in
    let commodity : Commodity = get_or cs k no_commodity in
    let inside : k < length cs = omega (arith, c.requires.k, ap (λ (xs : List Commodity). length xs) same) in
    let at : slice_get net.commodities k ≡ Some commodity = ap (λ (xs : List Commodity). slice_get xs k) (sym same) ∙ slice_get-get_or cs k no_commodity inside in
    let named : IsCommodity net.nodes commodity = subst (λ (xs : List Commodity). IsCommodity net.nodes (get_or xs k no_commodity)) (sym same) (c.requires.on.network.commodities k no_commodity c.requires.k) in
    let to : commodity.to < c.search.new.self.nodes = omega (arith, named.to, c.search.ensures.nodes, c.requires.nodes) in
    let d = c.in-Some.distance in
    let dist_is : dist_at c.search.new.self commodity.to ≡ Some d = sym c.dist.ensures.value ∙ c.in-Some.is in
    let least : IsLeast net.cells lengths commodity.from commodity.to (Some d) =
    subst (λ (o : Option ℕ). IsLeast net.cells lengths commodity.from commodity.to o) dist_is
    (subst (λ (n : Network). IsLeast n.cells lengths commodity.from commodity.to (dist_at c.search.new.self commodity.to)) on.graph_is (c.search.ensures.least commodity.to to)) in
    let path = c.in-Some-path_to.path.now in
    let path_is : path_at c.search.new.self commodity.to ≡ Some path = sym c.path_to.ensures.value ∙ ap (option_map (λ (p : Bor (List ℕ)). p.now)) c.in-Some-path_to.is in
    let found : IsFoundPath net.cells lengths commodity.from commodity.to d path =
    path-found net.cells lengths c.search.new.self.nodes commodity.from commodity.to d path (dist_at c.search.new.self commodity.to) (path_at c.search.new.self commodity.to)
    (subst (λ (n : Network). IsPath n.cells lengths c.search.new.self.nodes commodity.from commodity.to (dist_at c.search.new.self commodity.to) (path_at c.search.new.self commodity.to)) on.graph_is (c.search.ensures.paths commodity.to to)) dist_is path_is in
    found.inside

pub returns-clause-turned : goal.returns-clause-turned
returns-clause-turned c =
    let on = c.args.on.now in
    let net = on.net.now in
    let k = c.args.k in
    let s = c.args.loaded.now in
    let tops = c.args.tops.now in
    let lengths = c.args.lengths.now in
    let cs = c.commodities-commodities.result.now in
    let same : cs ≡ net.commodities = c.commodities-commodities.ensures.value in
    let commodity : Commodity = get_or cs k no_commodity in
    let inside : k < length cs = omega (arith, c.requires.k, ap (λ (xs : List Commodity). length xs) same) in
    let at : slice_get net.commodities k ≡ Some commodity = ap (λ (xs : List Commodity). slice_get xs k) (sym same) ∙ slice_get-get_or cs k no_commodity inside in
    let named : IsCommodity net.nodes commodity = subst (λ (xs : List Commodity). IsCommodity net.nodes (get_or xs k no_commodity)) (sym same) (c.requires.on.network.commodities k no_commodity c.requires.k) in
    let to : commodity.to < c.search.new.self.nodes = omega (arith, named.to, c.search.ensures.nodes, c.requires.nodes) in
    let d = c.in-Some.distance in
    let dist_is : dist_at c.search.new.self commodity.to ≡ Some d = sym c.dist.ensures.value ∙ c.in-Some.is in
    let least : IsLeast net.cells lengths commodity.from commodity.to (Some d) =
    subst (λ (o : Option ℕ). IsLeast net.cells lengths commodity.from commodity.to o) dist_is
    (subst (λ (n : Network). IsLeast n.cells lengths commodity.from commodity.to (dist_at c.search.new.self commodity.to)) on.graph_is (c.search.ensures.least commodity.to to)) in
    let g = c.length_of-gate.result in
    let load : get_or c.as_slice.result.now k 0 ≡ get_or s.gates.items k 0 = ap (λ (xs : List ℕ). get_or xs k 0) c.as_slice.ensures.value in
    let g_is : g ≡ length_at tops.setting (max tops.cells tops.gates) on.least (cell_at on.gates.now k) (get_or s.gates.items k 0) =
    c.length_of-gate.ensures ∙ (ap (λ (u : Under). length_at u.setting u.top u.least (cell_at on.gates.now k) (get_or c.as_slice.result.now k 0)) c.under.ensures
    ∙ ap (λ (x : ℕ). length_at tops.setting (max tops.cells tops.gates) on.least (cell_at on.gates.now k) x) load) in
    let price = price-now net on.gates.now on.least s tops lengths k d g commodity c.requires.on c.requires.loaded c.requires.follow at least g_is in
    let path = c.in-Some-path_to.path.now in
    let path_is : path_at c.search.new.self commodity.to ≡ Some path = sym c.path_to.ensures.value ∙ ap (option_map (λ (p : Bor (List ℕ)). p.now)) c.in-Some-path_to.is in
    let found : IsFoundPath net.cells lengths commodity.from commodity.to d path =
    path-found net.cells lengths c.search.new.self.nodes commodity.from commodity.to d path (dist_at c.search.new.self commodity.to) (path_at c.search.new.self commodity.to)
    (subst (λ (n : Network). IsPath n.cells lengths c.search.new.self.nodes commodity.from commodity.to (dist_at c.search.new.self commodity.to) (path_at c.search.new.self commodity.to)) on.graph_is (c.search.ensures.paths commodity.to to)) dist_is path_is in
    let xs = lengths_under net on.gates.now tops.setting s in
    let low : d + g ≤ c.args.most = omega arith in
    let row : Row = record { commodity = k; walk = path; weight = commodity.amount } in
    let turn = routed-turn net lengths (gate_lengths on.gates.now on.least s tops) xs c.args.most k d (d + g) commodity row (lengths-split net on.gates.now on.least s tops lengths c.requires.on c.requires.loaded c.requires.follow)
    (lengths-long net on.gates.now on.least s tops lengths c.requires.loaded c.requires.follow) at least found.walks found.long refl refl price low in
    on_ok_weaker c.route.result (λ rows. turned-some net on.gates.now tops.setting c.args.most k s c.route.new.loaded row turn rows) c.route.ensures.rows
