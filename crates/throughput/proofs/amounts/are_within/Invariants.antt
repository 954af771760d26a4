use Rattle.std.proofs.Common.{◌≡◌, ℕ, ◌*◌, ◌<◌, ◌≤◌, Some, get_or}
use Rattle.std.specs.Prelude.{slice_get}
use Rattle.flow_model.specs.declared.net.Commodity.{Commodity}
use Rattle.throughput.proofs.amounts.are_within.Given as goal

abbrev pub invariant-loop-k : goal.invariant-loop-k
invariant-loop-k l = (j : ℕ) (commodity : Commodity) → j < l.k → slice_get l.commodities j ≡ Some commodity → get_or l.amounts j 0 * l.scale_cap ≤ l.scale_load * commodity.amount
