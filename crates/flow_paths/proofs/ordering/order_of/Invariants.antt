use Rattle.std.proofs.Common.{◌≡◌, take}
use Rattle.flow_paths.specs.Sorted.{numbers_of}
use Rattle.flow_paths.proofs.ordering.order_of.Given as goal

abbrev pub invariant-loop-row : goal.invariant-loop-row
invariant-loop-row l = l.order.items ≡ numbers_of (take l.row-index l.row-items)
