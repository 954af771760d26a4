use Rattle.std.proofs.Common.{rules, ◌≡◌, ◌≢◌, ℕ, ◌+◌, List, ◌++◌, get_or, ap, subst, ◌∙◌}
use Rattle.std.proofs.lemmas.Option.{slice_get-get_or}
use Rattle.flow_model.specs.declared.net.Commodity.{Commodity}
use Rattle.flow_model.specs.Network.{IsCommodity}
use Rattle.flow_model.proofs.Duality.{no_cell, no_commodity}
use Rattle.flow_paths.specs.DualRows.{no_potential, potential_at}
use Rattle.dual_bound.specs.Bounds.{IsDistance}
use Rattle.gates.proofs.Pricing.{none_closed, priced}
use Rattle.gates.proofs.prices.price_of.Goals as goal

pub returns-then-gates-k-eq0 : goal.returns-then-gates-k-eq0
returns-then-gates-k-eq0 c =
    let net = c.args.net.now in
    let k = c.args.k in
    let named : IsCommodity net.nodes (get_or net.commodities k no_commodity) = c.commodities.ensures.net.commodities k no_commodity c.requires.k in
    let closed : (get_or c.args.gates.now k no_cell).cap ≡ 0 = search rules in
    none_closed net c.args.gates.now (c.args.lengths.now.cells.now ++ c.args.lengths.now.gates.now) k (get_or net.commodities k no_commodity) c.requires.gates (slice_get-get_or net.commodities k no_commodity c.requires.k) named.positive closed

pub returns : goal.returns
returns c =
    let net = c.args.net.now in
    let k = c.args.k in
    let lc = c.args.lengths.now.cells.now in
    let lg = c.args.lengths.now.gates.now in
    let commodity = get_or net.commodities k no_commodity in
    let named : IsCommodity net.nodes (get_or net.commodities k no_commodity) = c.commodities.ensures.net.commodities k no_commodity c.requires.k in
    let at = slice_get-get_or net.commodities k no_commodity c.requires.k in
    let row = potential_at c.args.dual.now.potentials c.args.row in
    let value = get_or row.values commodity.to 0 in
    let some : (get_or c.args.gates.now k no_cell).cap ≢ 0 = search rules in
    let filled = c.requires.bound.potentials c.args.row no_potential c.requires.row in
    let dist : IsDistance net.cells lc row.node commodity.to value = filled.each commodity.to named.to in
    let there : IsDistance net.cells lc commodity.from commodity.to value = subst (λ (v : ℕ). IsDistance net.cells lc v commodity.to value) (c.requires.node commodity at) dist in
    let read : get_or c.row.result.now (get_or c.commodities.result.now k no_commodity).to 0 ≡ value = ap (λ (l : List ℕ). get_or l (get_or c.commodities.result.now k no_commodity).to 0) c.row.ensures.value ∙ ap (λ (cs : List Commodity). get_or row.values (get_or cs k no_commodity).to 0) c.commodities.ensures.value in
    priced net c.args.gates.now lc lg k value (get_or c.row.result.now (get_or c.commodities.result.now k no_commodity).to 0 + get_or lg k 0) commodity there.0 c.requires.gates at c.requires.long.0 some there.1 there.2 (ap (λ (n : ℕ). n + get_or lg k 0) read)
