use Rattle.std.proofs.Common.{◌++◌}
use Rattle.gates.specs.Prices.{IsLeastBelow}
use Rattle.gates.proofs.prices.least_price.Given as goal

abbrev pub invariant-loop-k : goal.invariant-loop-k
invariant-loop-k l = IsLeastBelow l.net (l.lengths.cells.now ++ l.lengths.gates.now) l.k l.least
