use Rattle.std.proofs.Common.{arith, length, ap}
use Rattle.flow_model.specs.declared.net.Commodity.{Commodity}
use Rattle.std.proofs.Common.{List}
use Rattle.flow_model.specs.Groups.{group_count}
use Rattle.phase_engine.proofs.Finds.{members-few}
use Rattle.phase_engine.proofs.worker.greatest_group.Goals as goal

pub returns-clause-greatest : goal.returns-clause-greatest
returns-clause-greatest c = λ g l.
    let groups = ap group_count c.requires in
    let below = c.loop-g.invariant g (omega arith) in
    let few = members-few c.args.net.now g in
    let demands = ap (λ (xs : List Commodity). length xs) c.commodities-demands.ensures.value in
    omega (arith, below, few)
