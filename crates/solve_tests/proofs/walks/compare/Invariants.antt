use Rattle.std.proofs.Common.{◌≡◌}
use Rattle.solve_tests.proofs.walks.compare.Given as goal

abbrev pub invariant-loop-v : goal.invariant-loop-v
invariant-loop-v g l = l.scratch.nodes ≡ l.nodes
