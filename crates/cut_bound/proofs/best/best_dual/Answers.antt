use Rattle.std.proofs.Common.{◌≡◌, ℕ, ◌≤◌, List, length, map, sym, ap, subst, ◌∙◌, arith}
use Rattle.std.specs.Prelude.{All}
use Rattle.std.specs.List.{flat_map, fold, range_with_len}
use Rattle.std.proofs.lemmas.Result.{IfOk-weaker}
use Rattle.flow_model.specs.declared.net.Cell.{Cell}
use Rattle.flow_model.specs.declared.net.Commodity.{Commodity}
use Rattle.flow_model.specs.Network.{IsCell}
use Rattle.cut_bound.specs.declared.choice.Best.{Best}
use Rattle.cut_bound.specs.Candidates.{no_dual, IsBestDual}
use Rattle.cut_bound.specs.Search.{chosen, kept, node_cuts, seen, Considers, IsBestOwn, IsDualOf}
use Rattle.cut_bound.specs.Sums.{as_cell, total_capacity}
use Rattle.cut_bound.proofs.Choosing.{best-found, demands-fit, own-divide, rows-wide}
use Rattle.cut_bound.proofs.Leaving.{demands-total}
use Rattle.cut_bound.proofs.Owning.{seen-all, seen-length}
use Rattle.cut_bound.proofs.best.best_dual.Goals as goal

pub node_cuts-requires-clause-demands : goal.node_cuts-requires-clause-demands
node_cuts-requires-clause-demands g c =
    let net = c.args.net.now in
    let is : c.deref.result.now ≡ map (as_cell c.args.both) net.commodities = c.deref.ensures.value ∙ (c.in_ok-demands.ensures ∙ ap (λ (ks : List Commodity). map (as_cell c.args.both) ks) c.commodities.ensures.value) in
    subst (λ (xs : List Cell). All (IsCell net.nodes) xs) (sym is) (demands-fit net c.args.both c.commodities.ensures.net)

pub node_cuts-requires-clause-total : goal.node_cuts-requires-clause-total
node_cuts-requires-clause-total g c =
    let net = c.args.net.now in
    let is : c.deref.result.now ≡ map (as_cell c.args.both) net.commodities = c.deref.ensures.value ∙ (c.in_ok-demands.ensures ∙ ap (λ (ks : List Commodity). map (as_cell c.args.both) ks) c.commodities.ensures.value) in
    let all = demands-total net c.args.both c.commodities.ensures.net in
    omega (arith, ap total_capacity is, all)

pub consider_fronts-requires-clause-total : goal.consider_fronts-requires-clause-total
consider_fronts-requires-clause-total g c κs within =
    let net = c.args.net.now in
    let is : c.deref-3.result.now ≡ map (as_cell c.args.both) net.commodities = c.deref-3.ensures.value ∙ (c.in_ok-demands.ensures ∙ ap (λ (ks : List Commodity). map (as_cell c.args.both) ks) c.commodities.ensures.value) in
    let all = demands-total net c.args.both c.commodities.ensures.net in
    omega (arith, ap total_capacity is, all)

pub consider_fronts-requires-clause-demands : goal.consider_fronts-requires-clause-demands
consider_fronts-requires-clause-demands g c κs within =
    let net = c.args.net.now in
    let is : c.deref-3.result.now ≡ map (as_cell c.args.both) net.commodities = c.deref-3.ensures.value ∙ (c.in_ok-demands.ensures ∙ ap (λ (ks : List Commodity). map (as_cell c.args.both) ks) c.commodities.ensures.value) in
    subst (λ (xs : List Cell). All (IsCell net.nodes) xs) (sym is) (demands-fit net c.args.both c.commodities.ensures.net)

pub chosen_dual-requires : goal.chosen_dual-requires
chosen_dual-requires g c =
    let net = c.args.net.now in
    let both = c.args.both in
    let own = seen c.args.own.now in
    let fits : All (IsDualOf net) own = seen-all (IsDualOf net) c.args.own.now c.requires.duals in
    let some : 1 ≤ length own = omega (arith, seen-length c.args.own.now, c.requires.some) in
    let demands-is : c.deref-3.result.now ≡ map (as_cell both) net.commodities = c.deref-3.ensures.value ∙ (c.in_ok-demands.ensures ∙ ap (λ (ks : List Commodity). map (as_cell both) ks) c.commodities.ensures.value) in
    let first : IsBestOwn net own (length own) c.in_ok-best.best = subst (λ (n : ℕ). IsBestOwn net own n c.in_ok-best.best) (sym (seen-length c.args.own.now)) c.in_ok-best.ensures in
    let cuts-are : c.deref-2.result.now ≡ flat_map (node_cuts net.cells c.deref-3.result.now both) (range_with_len 0 net.nodes)
    = c.deref-2.ensures.value ∙ (c.in_ok-cuts.ensures ∙ ap (λ (ds : List Cell). flat_map (node_cuts net.cells ds both) (range_with_len 0 net.nodes)) (c.deref.ensures.value ∙ sym c.deref-3.ensures.value)) in
    let goes : Considers net.cells c.deref-3.result.now own (fold kept c.in_ok-best.best c.deref-2.result.now) c.consider_fronts.new.best
    = subst (λ (b : Best). Considers net.cells c.deref-3.result.now own b c.consider_fronts.new.best) c.consider_all.ensures c.in_ok-consider_fronts.ensures in
    (best-found net both own c.in_ok-best.best c.consider_fronts.new.best c.deref-3.result.now c.deref-2.result.now no_dual c.commodities.ensures.net some (own-divide net own fits) (λ r h. rows-wide net own r fits h) demands-is first cuts-are goes).0

pub returns : goal.returns
returns g c =
    let net = c.args.net.now in
    let both = c.args.both in
    let own = seen c.args.own.now in
    let fits : All (IsDualOf net) own = seen-all (IsDualOf net) c.args.own.now c.requires.duals in
    let some : 1 ≤ length own = omega (arith, seen-length c.args.own.now, c.requires.some) in
    let demands-is : c.deref-3.result.now ≡ map (as_cell both) net.commodities = c.deref-3.ensures.value ∙ (c.in_ok-demands.ensures ∙ ap (λ (ks : List Commodity). map (as_cell both) ks) c.commodities.ensures.value) in
    let first : IsBestOwn net own (length own) c.in_ok-best.best = subst (λ (n : ℕ). IsBestOwn net own n c.in_ok-best.best) (sym (seen-length c.args.own.now)) c.in_ok-best.ensures in
    let cuts-are : c.deref-2.result.now ≡ flat_map (node_cuts net.cells c.deref-3.result.now both) (range_with_len 0 net.nodes)
    = c.deref-2.ensures.value ∙ (c.in_ok-cuts.ensures ∙ ap (λ (ds : List Cell). flat_map (node_cuts net.cells ds both) (range_with_len 0 net.nodes)) (c.deref.ensures.value ∙ sym c.deref-3.ensures.value)) in
    let goes : Considers net.cells c.deref-3.result.now own (fold kept c.in_ok-best.best c.deref-2.result.now) c.consider_fronts.new.best
    = subst (λ (b : Best). Considers net.cells c.deref-3.result.now own b c.consider_fronts.new.best) c.consider_all.ensures c.in_ok-consider_fronts.ensures in
    IfOk-weaker c.chosen_dual.result (λ d. d ≡ chosen net both own c.consider_fronts.new.best.choice) (λ d. IsBestDual net both own d)
    (λ d e. (best-found net both own c.in_ok-best.best c.consider_fronts.new.best c.deref-3.result.now c.deref-2.result.now d c.commodities.ensures.net some (own-divide net own fits) (λ r h. rows-wide net own r fits h) demands-is first cuts-are goes).1 e) c.chosen_dual.ensures
