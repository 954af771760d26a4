use Rattle.std.proofs.Common.{◌≡◌, ℕ, ◌<◌, Bool, List, length, get_or, length-set, cond, ap, ◌∙◌, arith}
use Rattle.std.specs.List.{list_any}
use Rattle.std.specs.Option.{is_none}
use Rattle.flow_model.specs.declared.net.Commodity.{Commodity}
use Rattle.flow_model.specs.Network.{IsCommodity}
use Rattle.flow_model.proofs.Duality.{no_commodity}
use Rattle.hop_paths.specs.Allowed.{limit_at}
use Rattle.hop_check.proofs.Asking.{asks, marked-more, whole}
use Rattle.hop_check.proofs.asked.unlimited_counts.Goals as goal

pub loop-k-preserved : goal.loop-k-preserved
loop-k-preserved c =
    let cs = c.args.net.now.commodities in
    let limits = c.args.limits.now in
    let k = c.loop-k.k in
    let table = c.loop-k.wanted.items in
    let same : c.commodities-commodity-items.result.now ≡ cs = c.commodities-commodity-items.ensures.value in
    let lt : k < length cs = omega (arith, ap length same) in
    let at = (get_or c.commodities-commodity-items.result.now k no_commodity).from in
    let is : at ≡ (get_or cs k no_commodity).from = ap (λ (l : List Commodity). (get_or l k no_commodity).from) same in
    let named : IsCommodity c.args.net.now.nodes (get_or cs k no_commodity) = c.nodes.ensures.net.commodities k no_commodity lt in
    let inside : at < length table = omega (arith, is, named.from, c.loop-k.invariant.len) in
    let q : ℕ → Bool = λ j. is_none (limit_at limits j) in
    record {
      len = length-set table at c.marked.result ∙ c.loop-k.invariant.len;
      value = λ s l. marked-more cs q table k at c.index.result.now c.marked.result s lt is inside c.index.ensures c.marked.ensures (c.loop-k.invariant.value s l);
    }

pub returns-clause-value : goal.returns-clause-value
returns-clause-value c =
    let cs = c.args.net.now.commodities in
    let same : length c.commodities-commodity-items.result.now ≡ length cs = ap length c.commodities-commodity-items.ensures.value in
    let all = whole cs c.loop-k.k (omega arith) in
    λ s l. c.loop-k.invariant.value s l ∙ ap (λ (xs : List (ℕ × Commodity)). cond {A = ℕ} (list_any (asks (λ j. is_none (limit_at c.args.limits.now j)) s) xs) 1 0) all
