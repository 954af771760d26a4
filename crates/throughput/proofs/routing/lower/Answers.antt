use Rattle.std.proofs.Common.{◌≡◌, ◌*◌, ap, arith}
use Rattle.throughput.specs.Partial.{total_of}
use Rattle.throughput.proofs.Totals.{scaled_total}
use Rattle.throughput.proofs.routing.lower.Goals as goal

pub overflow_mul-total : goal.overflow_mul-total
overflow_mul-total c =
    let r = c.args.routing.now in
    let most = scaled_total c.args.net.now r c.nodes-nodes.ensures.net c.requires.routing c.requires.amounts in
    let is : c.total.result * r.scale_cap ≡ total_of r.paths * r.scale_cap = ap (λ n. n * r.scale_cap) c.total.ensures.value in
    omega arith

pub new-requires : goal.new-requires
new-requires c =
    let r = c.args.routing.now in
    let most = scaled_total c.args.net.now r c.nodes-nodes.ensures.net c.requires.routing c.requires.amounts in
    let is : c.total.result * r.scale_cap ≡ total_of r.paths * r.scale_cap = ap (λ n. n * r.scale_cap) c.total.ensures.value in
    record {
      positive = omega (arith, c.requires.scale);
      num = omega arith;
      den = omega (arith, c.requires.routing.scale_load);
    }

pub returns-clause-num : goal.returns-clause-num
returns-clause-num c =
    let r = c.args.routing.now in
    let most = scaled_total c.args.net.now r c.nodes-nodes.ensures.net c.requires.routing c.requires.amounts in
    let is : c.total.result * r.scale_cap ≡ total_of r.paths * r.scale_cap = ap (λ n. n * r.scale_cap) c.total.ensures.value in
    let num = ap (λ f. f.num) c.new.ensures in
    omega arith
