use Rattle.std.proofs.Common.{rules, ◌≡◌, ◌↔◌, Bool, List, length, get_or, Some, IsTrue, ap, sym, subst, ◌∙◌, arith, ◌≤◌, All, ◌<◌}
use Rattle.std.specs.Prelude.{slice_get}
use Rattle.std.specs.declared.vec.Vec.{Vec}
use Rattle.std.proofs.lemmas.List.Elements.{All-push}
use Rattle.mcf_limits.specs.declared.TheConstants.{MAX_UNITS}
use Rattle.flow_model.specs.Network.{IsCommodity}
use Rattle.std.specs.declared.alloc.Global.{Global}
use Rattle.std.proofs.lemmas.List.{with_items_is}
use Rattle.std.proofs.lemmas.Option.{get_or_from_slice_get}
use Rattle.flow_model.specs.declared.net.Cell.{Cell}
use Rattle.flow_model.specs.declared.net.Commodity.{Commodity}
use Rattle.flow_model.specs.Network.{Network}
use Rattle.flow_model.specs.Least.{IsJoined}
use Rattle.flow_model.proofs.Duality.{no_commodity}
use Rattle.dijkstra_paths.specs.Reach.{AreRows}
use Rattle.gates.specs.Gating.{IsGate}
use Rattle.gates.proofs.Grown.{gates-more, gates-done}
use Rattle.gates.proofs.gate_cells.gates.Goals as goal

pub loop-commodity-preserved : goal.loop-commodity-preserved
loop-commodity-preserved c =
    let net = c.args.net.now in
    let cs = net.commodities in
    let k = c.loop-commodity.commodity-index in
    let same : c.commodities-commodity-items.result.now ≡ cs = c.commodities-commodity-items.ensures.value in
    let graph : c.args.graph.now ≡ net = c.requires in
    let fresh : AreRows net c.is_joined.new.rows = subst (λ (g : Network). AreRows g c.is_joined.new.rows) graph c.in_ok-joined.ensures.rows in
    let whole : length c.is_joined.new.rows ≡ c.loop-commodity.rows.len = omega (arith, fresh.count, c.loop-commodity.invariant.rows.count, c.loop-commodity.rows.ok.0) in
    let inside : k < length cs = omega (arith, ap (λ (l : List Commodity). length l) same) in
    let named : IsCommodity net.nodes (get_or cs k no_commodity) = c.commodities.ensures.net.commodities k no_commodity inside in
    let amount : (get_or c.commodities-commodity-items.result.now k no_commodity).amount ≡ (get_or cs k no_commodity).amount = ap (λ (l : List Commodity). (get_or l k no_commodity).amount) same in
    let small : c.gate_of.result.cap ≤ MAX_UNITS = omega (arith, c.gate_of.ensures.limit, amount, named.amount) in
    let here : (commodity : Commodity) → slice_get cs k ≡ Some commodity → IsGate net.cells commodity c.gate_of.result = λ commodity at.
    (let is : get_or c.commodities-commodity-items.result.now k no_commodity ≡ commodity = ap (λ (l : List Commodity). get_or l k no_commodity) same ∙ get_or_from_slice_get cs k commodity no_commodity at in
    let joined : IsTrue c.in_ok-joined.joined ↔ IsJoined c.args.graph.now.cells commodity.from commodity.to = subst (λ (x : Commodity). IsTrue c.in_ok-joined.joined ↔ IsJoined c.args.graph.now.cells x.from x.to) is c.in_ok-joined.ensures.value in
    let over : IsTrue c.in_ok-joined.joined ↔ IsJoined net.cells commodity.from commodity.to = subst (λ (g : Network). IsTrue c.in_ok-joined.joined ↔ IsJoined g.cells commodity.from commodity.to) graph joined in
    let back : IsTrue c.in_ok-joined.joined ↔ IsJoined net.cells (get_or c.commodities-commodity-items.result.now k no_commodity).from (get_or c.commodities-commodity-items.result.now k no_commodity).to = subst (λ (x : Commodity). IsTrue c.in_ok-joined.joined ↔ IsJoined net.cells x.from x.to) (sym is) over in
    subst (λ (x : Commodity). IsGate net.cells x c.gate_of.result) is (c.gate_of.ensures.value net.cells back)) in
    record {
      rows = subst (λ (rs : List (Vec Bool Global)). AreRows net rs) (sym (with_items_is c.loop-commodity.rows c.is_joined.new.rows whole)) fresh;
      count = search rules;
      caps = subst (λ (xs : List Cell). All (λ (cell : Cell). cell.cap ≤ MAX_UNITS) xs) (sym c.in_ok-push.ensures.items) (All-push (λ (cell : Cell). cell.cap ≤ MAX_UNITS) c.loop-commodity.gates.items c.gate_of.result c.loop-commodity.invariant.caps small);
      each = gates-more net.cells cs c.loop-commodity.gates.items c.push.new.self.items k c.gate_of.result c.loop-commodity.invariant.count c.in_ok-push.ensures.items here c.loop-commodity.invariant.each;
    }

pub returns-clause-value : goal.returns-clause-value
returns-clause-value c =
    let net = c.args.net.now in
    let same : length c.commodities-commodity-items.result.now ≡ length net.commodities = ap (λ (l : List Commodity). length l) c.commodities-commodity-items.ensures.value in
    gates-done net c.loop-commodity.gates.items c.loop-commodity.commodity-index c.loop-commodity.invariant.count (omega arith) c.loop-commodity.invariant.each
