use Rattle.std.proofs.Common.{◌≡◌, ℕ, ◌<◌, ◌∙◌, Some, true, cond, ap, sym, subst, refl, arith, length, get_or, eqb, eq-eqb, List}
use Rattle.std.specs.Prelude.{count_by, find}
use Rattle.std.proofs.lemmas.List.Folds.{list_any_at}
use Rattle.flow_model.specs.declared.net.Commodity.{Commodity}
use Rattle.flow_model.specs.Network.{IsCommodity}
use Rattle.flow_paths.specs.DualRows.{no_potential}
use Rattle.flow_model.specs.Groups.{is_source}
use Rattle.cert_check.proofs.Counting.{cond_le}
use Rattle.throughput.proofs.bound.upper_num.Goals as goal

pub row_places-requires-clause-once : goal.row_places-requires-clause-once
row_places-requires-clause-once c = λ v lt.
    let h = c.requires.sources.each v (omega (arith, c.nodes.ensures.value)) in
    let few = cond_le (is_source c.args.net.now.commodities v) in
    omega arith

pub weighted_excess-excess-requires-clause-rows : goal.weighted_excess-excess-requires-clause-rows
weighted_excess-excess-requires-clause-rows c = λ k d lt.
    let rows = c.args.bound.now.dual.potentials in
    let commodities = c.args.net.now.commodities in
    let v = (get_or commodities k d).from in
    let inside : k < length commodities = omega (arith, ap length c.commodities.ensures.value) in
    let named : IsCommodity c.args.net.now.nodes (get_or commodities k d) = c.commodities.ensures.net.commodities k d inside in
    let source : is_source commodities v ≡ true = list_any_at (λ x. eqb x.from v) commodities k d inside (eq-eqb v v refl) in
    let one : cond (is_source commodities v) 1 0 ≡ 1 = rw source refl in
    let once : count_by (λ r. eqb r.node v) rows ≡ 1 = c.requires.sources.each v named.from ∙ one in
    let place = c.in_ok-places.ensures.value v (omega (arith, named.from, c.nodes.ensures.value)) once in
    let P : List ℕ → List Commodity → Type 0 = λ places cs. (get_or places (get_or cs k d).from 0 < length rows) × (find (λ r. eqb r.node (get_or cs k d).from) rows ≡ Some (get_or rows (get_or places (get_or cs k d).from 0) no_potential)) in
    subst (λ (places : List ℕ). P places c.commodities.result.now) (sym c.deref.ensures.value) (subst (λ (cs : List Commodity). P c.in_ok-places.places.items cs) (sym c.commodities.ensures.value) place)
