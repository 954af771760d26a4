use Rattle.std.proofs.Common.{get_or, ◌∙◌, arith, length-set}
use Rattle.flow_paths.proofs.Numbers.{below_of_all, back_more}
use Rattle.flow_paths.proofs.ordering.new_numbers.Goals as goal

pub index_mut-requires : goal.index_mut-requires
index_mut-requires c =
    let b = below_of_all c.args.order.now c.loop-place.place c.requires.all c.loop-place-test.true in
    let n = c.loop-place.invariant.count in
    let v = c.loop-place.numbers.ok.0 in
    omega (arith, b, n, v)

pub loop-place-preserved : goal.loop-place-preserved
loop-place-preserved c = record {
  count = length-set c.loop-place.numbers.items (get_or c.args.order.now c.loop-place.place 0) c.loop-place.place ∙ c.loop-place.invariant.count;
  back = back_more c.args.order.now c.loop-place.numbers.items c.loop-place.place c.requires.all c.loop-place.invariant.count c.loop-place-test.true c.loop-place.invariant.back;
}
