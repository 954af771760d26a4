use Rattle.std.proofs.Common.{arith, ℕ, List, ◌≡◌, ◌∙◌, ◌++◌, ◌<◌, length, get_or, subst, sym, ap, rules}
use Rattle.std.specs.Prelude.{All}
use Rattle.std.specs.Vec.{with_items}
use Rattle.std.proofs.lemmas.List.{with_items_is}
use Rattle.std.specs.List.Sorted.{IsStrictlyIncreasing}
use Rattle.flow_model.specs.Network.{Network}
use Rattle.flow_model.specs.Lengths.{lengths_of}
use Rattle.flow_model.specs.Groups.{members_of, group_sources}
use Rattle.load_table.specs.Reading.{OneWhere}
use Rattle.phase_engine.specs.Steps.{HasFinished, IsReadyForAll, adds_of}
use Rattle.phase_engine.specs.Found.{HasPath, to_at, routes_to, group_routes}
use Rattle.phase_engine.proofs.Finds.{claimed-fresh, ready-all, found-all, complete-entry, routes-are, members-ascend, members-inside, source-inside, search-is}
use Rattle.phase_engine.proofs.worker.route_ticket.Goals as goal

pub read_all-requires-clause-fresh : goal.read_all-requires-clause-fresh
read_all-requires-clause-fresh c = claimed-fresh c.args.g c.args.pass.now.view.hands c.requires.claimed

pub search_near-requires-clause-from : goal.search_near-requires-clause-from
search_near-requires-clause-from c =
    let at = c.source-source.ensures ∙ ap (λ (m : Network). get_or (group_sources m) c.args.g 0) c.args.input.now.groups_are in
    let inside = source-inside c.args.input.now.net.now c.args.g c.requires.group in
    omega (arith, c.requires.nodes)

pub route_group-requires-clause-ready : goal.route_group-requires-clause-ready
route_group-requires-clause-ready c =
    let net = c.args.input.now.net.now in
    let ms : c.members.result.now ≡ members_of net c.args.g = c.members.ensures ∙ ap (λ (m : Network). members_of m c.args.g) c.args.input.now.groups_are in
    let all : length c.read_all.new.reads ≡ length net.cells = omega (arith, c.read_all.auto.reads, c.requires.room.0.0, c.deref_mut.ensures.len) in
    subst (λ (xs : List ℕ). OneWhere (IsReadyForAll c.args.loads.now.terms xs) c.read_all.new.pass.view.hands) (sym ms)
    (ready-all c.args.loads.now.terms net c.args.g c.read_all.new.reads c.args.pass.now.view c.read_all.new.pass.view c.requires.loads c.requires.claimed c.read_all.ensures.view all)

pub route_group-requires-clause-ascending : goal.route_group-requires-clause-ascending
route_group-requires-clause-ascending c =
    let ms : c.members.result.now ≡ members_of c.args.input.now.net.now c.args.g = c.members.ensures ∙ ap (λ (m : Network). members_of m c.args.g) c.args.input.now.groups_are in
    subst IsStrictlyIncreasing (sym ms) (members-ascend c.args.input.now.net.now c.args.g)

pub route_group-requires-clause-members : goal.route_group-requires-clause-members
route_group-requires-clause-members c =
    let net = c.args.input.now.net.now in
    let ms : c.members.result.now ≡ members_of net c.args.g = c.members.ensures ∙ ap (λ (m : Network). members_of m c.args.g) c.args.input.now.groups_are in
    subst (All (λ k. k < length net.commodities)) (sym ms) (members-inside net c.args.g)

pub route_group-requires-clause-found : goal.route_group-requires-clause-found
route_group-requires-clause-found c =
    let net = c.args.input.now.net.now in
    let s = c.search_near.new.self in
    let ms : c.members.result.now ≡ members_of net c.args.g = c.members.ensures ∙ ap (λ (m : Network). members_of m c.args.g) c.args.input.now.groups_are in
    let search = search-is net c.args.input.now.graph.now c.args.input.now.groups.now c.lengths.result.now c.source-source.result c.args.g s c.args.input.now.graph_is c.args.input.now.groups_are c.source-source.ensures c.search_near.ensures.least c.search_near.ensures.paths in
    let nodes : s.nodes ≡ net.nodes = c.search_near.ensures.nodes ∙ c.requires.nodes in
    subst (All (λ k. HasPath net.cells s (to_at net k))) (sym ms) (found-all net c.lengths.result.now c.args.g s c.requires.network c.requires.no_cut search nodes)

pub returns-clause-complete : goal.returns-clause-complete
returns-clause-complete c =
    let net = c.args.input.now.net.now in
    let t = c.args.loads.now.terms in
    let s = c.search_near.new.self in
    let reads = (with_items c.args.room.now.loads c.read_all.new.reads).items in
    let search = search-is net c.args.input.now.graph.now c.args.input.now.groups.now c.lengths.result.now c.source-source.result c.args.g s c.args.input.now.graph_is c.args.input.now.groups_are c.source-source.ensures c.search_near.ensures.least c.search_near.ensures.paths in
    let nodes : s.nodes ≡ net.nodes = c.search_near.ensures.nodes ∙ c.requires.nodes in
    let is = with_items_is c.args.room.now.loads c.read_all.new.reads (omega (arith, c.read_all.auto.reads, c.deref_mut.ensures.len)) in
    let all : length reads ≡ length net.cells = ap (λ (xs : List ℕ). length xs) is ∙ omega (arith, c.read_all.auto.reads, c.requires.room.0.0, c.deref_mut.ensures.len) in
    let n : c.update.new.self.net ≡ net = c.update.ensures.net ∙ c.requires.room.0.1 in
    let set : c.update.new.self.setting ≡ t.setting = c.update.ensures.setting ∙ c.requires.room.1 in
    let loads : c.update.new.self.loads ≡ reads = c.update.ensures.loads ∙ c.as_slice.ensures.value in
    let under : c.lengths.result.now ≡ lengths_of net t.setting reads = c.lengths.ensures.value ∙ (λ i. lengths_of (n i) (set i) (loads i)) in
    complete-entry t net c.lengths.result.now c.args.g s reads c.requires.loads c.requires.network c.requires.no_cut search nodes all under

pub returns-clause-routes : goal.returns-clause-routes
returns-clause-routes c =
    let net = c.args.input.now.net.now in
    let g = c.args.g in
    let ms : c.members.result.now ≡ members_of net g = c.members.ensures ∙ ap (λ (m : Network). members_of m g) c.args.input.now.groups_are in
    let found : c.route_group.new.buffer.routes ≡ c.args.buffer.now.routes ++ routes_to net c.search_near.new.self (members_of net g) =
    c.route_group.ensures.routes ∙ (λ i. c.args.buffer.now.routes ++ routes_to net c.search_near.new.self (ms i)) in
    (found, routes-are net g c.search_near.new.self (with_items c.args.room.now.loads c.read_all.new.reads).items)

pub returns-clause-view : goal.returns-clause-view
returns-clause-view c =
    let is = with_items_is c.args.room.now.loads c.read_all.new.reads (omega (arith, c.read_all.auto.reads, c.deref_mut.ensures.len)) in
    let adds = adds_of (group_routes c.args.input.now.net.now c.search_near.new.self c.args.g) in
    let view : HasFinished c.read_all.new.reads adds c.args.pass.now.view c.route_group.new.pass.view = search rules in
    subst (λ (xs : List ℕ). HasFinished xs adds c.args.pass.now.view c.route_group.new.pass.view) (sym is) view
