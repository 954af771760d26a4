use Rattle.std.proofs.Common.{true, false, map, ◌++◌, if◌then◌else◌, refl, below_more, arith}
use Rattle.unit_scale.proofs.Decimals.{six_serves, serve_is}
use Rattle.unit_scale.proofs.sizes.least_decimals.Goals as goal
use Rattle.unit_scale.proofs.sizes.least_decimals.Goals.{else-all_links_divide-via-then-all_links_divide+else-all_demands_divide, else-all_links_divide-via-else-all_links_divide}

pub returns-then-all_demands_divide : goal.returns-then-all_demands_divide
returns-then-all_demands_divide c = record {
  within = omega arith;
  serve = serve_is c.loop-decimals.decimals c.unit_of-unit.result c.args.links.now c.args.demands.now true true c.unit_of-unit.ensures.value c.unit_of-unit.ensures.some c.if-all_links_divide.ensures c.if-all_demands_divide.ensures;
  least = c.loop-decimals.invariant;
}

pub loop-decimals-preserved : goal.loop-decimals-preserved
loop-decimals-preserved c = below_more _ _ c.loop-decimals.invariant (elim c.else-all_links_divide.branch [
  | else-all_links_divide-via-then-all_links_divide+else-all_demands_divide w ↦ serve_is c.loop-decimals.decimals c.unit_of-unit.result c.args.links.now c.args.demands.now true false c.unit_of-unit.ensures.value c.unit_of-unit.ensures.some w.if-all_links_divide.ensures w.if-all_demands_divide.ensures
  | else-all_links_divide-via-else-all_links_divide w ↦ serve_is c.loop-decimals.decimals c.unit_of-unit.result c.args.links.now c.args.demands.now false _ c.unit_of-unit.ensures.value c.unit_of-unit.ensures.some w.if-all_links_divide.ensures refl
])

pub returns : goal.returns
returns c = record { within = omega arith; serve = six_serves (map (λ z. z.millionths) c.args.links.now ++ map (λ z. if z.left then 0 else z.millionths) c.args.demands.now); least = λ t h. c.loop-decimals.invariant t (omega arith) }
