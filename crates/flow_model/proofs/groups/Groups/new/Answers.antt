use Rattle.std.proofs.Common.{arith, ◌≤◌, ◌≡◌, length, ap, sym, refl, length-append, [], ◌∷◌}
use Rattle.flow_model.specs.Grouped.{members_below}
use Rattle.flow_model.proofs.Grouping.{below-fits, below-suc, below-zero, begins-more}
use Rattle.mcf_limits.specs.declared.TheConstants.{MAX_DEMANDS, MAX_NODES}
use Rattle.flow_model.proofs.groups.Groups.new.Goals as goal

pub loop-v-init : goal.loop-v-init
loop-v-init c = record { all = rw (c.new-members.ensures.items, below-zero c.commodities-commodities.result.now) refl; count = rw c.new-starts.ensures.items refl; begins = λ u l. absurd (omega arith) }

pub overflow_cast-len : goal.overflow_cast-len
overflow_cast-len c =
    let few : c.loop-v.v ≤ MAX_NODES = omega (arith, c.nodes-nodes.ensures.net.nodes) in
    let demands : length c.commodities-commodities.result.now ≤ MAX_DEMANDS = rw c.commodities-commodities.ensures.value c.commodities-commodities.ensures.net.commodity_count in
    omega (arith, below-fits c.commodities-commodities.result.now c.loop-v.v demands few, ap length c.loop-v.invariant.all)

pub overflow_cast-len-2 : goal.overflow_cast-len-2
overflow_cast-len-2 c =
    let few : c.loop-v.v ≤ MAX_NODES = omega (arith, c.nodes-nodes.ensures.net.nodes) in
    let demands : length c.commodities-commodities.result.now ≤ MAX_DEMANDS = rw c.commodities-commodities.ensures.value c.commodities-commodities.ensures.net.commodity_count in
    omega (arith, below-fits c.commodities-commodities.result.now c.loop-v.v demands few, ap length c.loop-v.invariant.all)

pub loop-v-preserved : goal.loop-v-preserved
loop-v-preserved c =
    let cs = c.commodities-commodities.result.now in
    let v = c.loop-v.v in
    let x : c.len.result ≡ length (members_below cs v) = omega (arith, ap length c.loop-v.invariant.all) in
    record {
      all = rw (c.in_ok-append_members.ensures, c.loop-v.invariant.all) (sym (below-suc cs v));
      count = rw c.in_ok-push.ensures.items (omega (arith, length-append c.loop-v.starts.items (c.len.result ∷ []), c.loop-v.invariant.count));
      begins = rw c.in_ok-push.ensures.items (begins-more cs c.loop-v.starts.items v c.len.result c.loop-v.invariant.count x c.loop-v.invariant.begins);
    }
