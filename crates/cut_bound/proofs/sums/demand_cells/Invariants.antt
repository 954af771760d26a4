use Rattle.std.proofs.Common.{◌≡◌, map, take}
use Rattle.cut_bound.specs.Sums.{as_cell}
use Rattle.cut_bound.proofs.sums.demand_cells.Given as goal

abbrev pub invariant-loop-k : goal.invariant-loop-k
invariant-loop-k l = l.cells.items ≡ map (as_cell l.both) (take l.k-index l.commodities)
