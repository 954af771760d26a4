use Rattle.std.proofs.Common.{◌≡◌, ℕ, ◌+◌, ◌<◌, ◌≤◌, List, length, get_or, set, length-set, ap, sym, ◌∙◌, arith, inl, inr}
use Rattle.std.specs.Prelude.{nat_le, nat_lt, false}
use Rattle.std.specs.List.{list_any}
use Rattle.std.specs.Option.{option_map_or}
use Rattle.std.proofs.lemmas.Bool.Decides.{eqb_tells}
use Rattle.mcf_limits.specs.declared.TheConstants.{MAX_HOPS}
use Rattle.flow_model.specs.declared.net.Commodity.{Commodity}
use Rattle.flow_model.specs.Network.{IsCommodity}
use Rattle.flow_model.proofs.Duality.{no_commodity}
use Rattle.flow_paths.proofs.Counting.{set_here, set_there}
use Rattle.hop_paths.specs.Allowed.{limit_at}
use Rattle.hop_check.proofs.Asking.{asks, raised-more, whole}
use Rattle.hop_check.proofs.asked.layer_counts.Goals as goal

small-more : (table : List ℕ) (at new s most : ℕ) → at < length table → new ≤ most → get_or table s 0 ≤ most → get_or (set table at new) s 0 ≤ most
small-more table at new s most inside fits h = elim (eqb_tells at s) as (λ _. get_or (set table at new) s 0 ≤ most) [
  | inl p ↦ let is = set_here table at new s inside p.1 in omega arith
  | inr p ↦ let is = set_there table at new s p.1 in omega arith
]

pub loop-k-preserved : goal.loop-k-preserved
loop-k-preserved c =
    let cs = c.args.net.now.commodities in
    let limits = c.args.limits.now in
    let k = c.loop-k.k in
    let table = c.loop-k.wanted.items in
    let same : c.commodities-commodity-items.result.now ≡ cs = c.commodities-commodity-items.ensures.value in
    let lt : k < length cs = omega (arith, ap length same) in
    let at = (get_or c.commodities-commodity-items.result.now k no_commodity).from in
    let is : at ≡ (get_or cs k no_commodity).from = ap (λ (l : List Commodity). (get_or l k no_commodity).from) same in
    let named : IsCommodity c.args.net.now.nodes (get_or cs k no_commodity) = c.nodes.ensures.net.commodities k no_commodity lt in
    let inside : at < length table = omega (arith, is, named.from, c.loop-k.invariant.len) in
    record {
      len = length-set table at c.raised.result ∙ c.loop-k.invariant.len;
      small = λ s l. small-more table at c.raised.result s (MAX_HOPS + 1) inside c.raised.ensures.small (c.loop-k.invariant.small s l);
      each = λ s i l. raised-more cs (λ j. option_map_or (nat_le i) (limit_at limits j) false) (nat_lt i) table k at c.index.result.now c.raised.result s lt is inside c.index.ensures (c.raised.ensures.each i) (c.loop-k.invariant.each s i l);
    }

pub returns : goal.returns
returns c =
    let cs = c.args.net.now.commodities in
    let same : length c.commodities-commodity-items.result.now ≡ length cs = ap length c.commodities-commodity-items.ensures.value in
    let all = whole cs c.loop-k.k (omega arith) in
    record {
      len = c.loop-k.invariant.len;
      small = c.loop-k.invariant.small;
      each = λ s i l. sym (ap (list_any (asks (λ j. option_map_or (nat_le i) (limit_at c.args.limits.now j) false) s)) all) ∙ c.loop-k.invariant.each s i l;
    }
