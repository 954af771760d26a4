use Rattle.std.proofs.Common.{◌≡◌, ◌+◌, ◌<◌, ◌≤◌, ℕ, List, ◌++◌, length, get_or, Option, ap, sym, subst, ◌∙◌, arith}
use Rattle.std.proofs.lemmas.Option.{slice_get-get_or, get_or_from_slice_get}
use Rattle.flow_model.specs.declared.net.Commodity.{Commodity}
use Rattle.flow_model.proofs.Duality.{no_commodity}
use Rattle.flow_paths.specs.DualRows.{potential_at}
use Rattle.gates.specs.Prices.{IsLeastBelow}
use Rattle.gates.proofs.Pricing.{least-more, least-done}
use Rattle.gates.proofs.prices.least_price.Goals as goal

pub loop-k-init : goal.loop-k-init
loop-k-init c = λ k other lt p. absurd (omega arith)

pub price_of-requires-clause-row : goal.price_of-requires-clause-row
price_of-requires-clause-row c =
    let cs = c.args.net.now.commodities in
    let k = c.loop-k.k in
    let same : c.commodities-commodity-items.result.now ≡ cs = c.commodities-commodity-items.ensures.value in
    let inside : k < length cs = omega (arith, ap (λ (l : List Commodity). length l) same) in
    let there = c.requires.placed k (get_or cs k no_commodity) (slice_get-get_or cs k no_commodity inside) in
    subst (λ (l : List Commodity). get_or c.args.places.now (get_or l k no_commodity).from 0 < length c.args.dual.now.potentials) (sym same) there.0

pub price_of-requires-clause-node : goal.price_of-requires-clause-node
price_of-requires-clause-node c = λ commodity at.
    let cs = c.args.net.now.commodities in
    let k = c.loop-k.k in
    let is : get_or c.commodities-commodity-items.result.now k no_commodity ≡ commodity = ap (λ (l : List Commodity). get_or l k no_commodity) c.commodities-commodity-items.ensures.value ∙ get_or_from_slice_get cs k commodity no_commodity at in
    let there = c.requires.placed k commodity at in
    subst (λ (x : Commodity). (potential_at c.args.dual.now.potentials (get_or c.args.places.now x.from 0)).node ≡ commodity.from) (sym is) there.1

pub loop-k-preserved : goal.loop-k-preserved
loop-k-preserved c =
    let all = c.args.lengths.now.cells.now ++ c.args.lengths.now.gates.now in
    subst (λ (o : Option ℕ). IsLeastBelow c.args.net.now all (c.loop-k.k + 1) o) (sym c.lesser-least.ensures) (least-more c.args.net.now all c.loop-k.k c.loop-k.least c.price_of.result c.loop-k.invariant c.price_of.ensures)

pub returns : goal.returns
returns c =
    let all = c.args.lengths.now.cells.now ++ c.args.lengths.now.gates.now in
    let end : length c.args.net.now.commodities ≤ c.loop-k.k = omega (arith, ap (λ (l : List Commodity). length l) c.commodities-commodity-items.ensures.value) in
    least-done c.args.net.now all c.loop-k.k c.loop-k.least end c.loop-k.invariant
