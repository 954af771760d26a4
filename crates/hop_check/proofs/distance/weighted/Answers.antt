use Rattle.std.proofs.Common.{◌≡◌, ◌+◌, ◌*◌, ◌<◌, ℕ, length, get_or, List, ap, ◌∙◌, arith}
use Rattle.flow_model.specs.declared.net.Commodity.{Commodity}
use Rattle.flow_model.proofs.Duality.{no_commodity}
use Rattle.hop_paths.specs.Allowed.{limit_at}
use Rattle.hop_check.specs.Layers.{hop_distance}
use Rattle.hop_check.proofs.Weighing.{weighed-more, bound-more, weighed-all}
use Rattle.hop_check.proofs.distance.weighted.Goals as goal

pub loop-k-preserved : goal.loop-k-preserved
loop-k-preserved c =
    let cs = c.args.net.now.commodities in
    let k = c.loop-k.k in
    let d = c.distance-distance.result in
    let f : ℕ → Commodity → ℕ = λ j x. hop_distance (record { dual = c.args.dual.now; layers = c.args.layers.now }) (limit_at c.args.limits.now j) x in
    let same : c.commodities-commodity-items.result.now ≡ cs = c.commodities-commodity-items.ensures.value in
    let lt : k < length cs = omega (arith, ap length same) in
    let item = ap (λ (l : List Commodity). get_or l k no_commodity) same in
    let is : d ≡ f k (get_or cs k no_commodity) = c.distance-distance.ensures.value ∙ ap (f k) item in
    let step : c.from.result * c.from-in-loop-k.result ≡ (get_or cs k no_commodity).amount * d = ap (λ (n : ℕ). n * c.from-in-loop-k.result) (c.from.ensures ∙ ap (λ (x : Commodity). x.amount) item) ∙ ap (λ (n : ℕ). (get_or cs k no_commodity).amount * n) c.from-in-loop-k.ensures in
    record {
      value = ap (λ (n : ℕ). c.loop-k.total + n) step ∙ weighed-more cs f k c.loop-k.total d lt is c.loop-k.invariant.value;
      bound = omega (arith, step, bound-more cs k c.loop-k.total d lt c.distance-distance.ensures.limit c.loop-k.invariant.bound);
    }

pub returns-clause-value : goal.returns-clause-value
returns-clause-value c =
    let cs = c.args.net.now.commodities in
    let same : length c.commodities-commodity-items.result.now ≡ length cs = ap length c.commodities-commodity-items.ensures.value in
    weighed-all cs (λ j x. hop_distance (record { dual = c.args.dual.now; layers = c.args.layers.now }) (limit_at c.args.limits.now j) x) c.loop-k.k c.loop-k.total (omega arith) c.loop-k.invariant.value
