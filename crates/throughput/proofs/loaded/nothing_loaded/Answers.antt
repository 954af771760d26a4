use Rattle.std.proofs.Common.{ap, List, length, refl}
use Rattle.flow_model.specs.declared.net.Cell.{Cell}
use Rattle.flow_model.specs.declared.net.Commodity.{Commodity}
use Rattle.throughput.proofs.Loading.{nothing-loaded}
use Rattle.throughput.proofs.loaded.nothing_loaded.Goals as goal

pub returns-clause-loaded : goal.returns-clause-loaded
returns-clause-loaded c =
    nothing-loaded c.args.net.now _ (length c.cells.result.now) (length c.commodities.result.now) (ap (λ (xs : List Cell). length xs) c.cells.ensures.value) (ap (λ (xs : List Commodity). length xs) c.commodities.ensures.value)
    c.in_ok-zeros.ensures c.in_ok-zeros-2.ensures refl c.new.ensures.turns
