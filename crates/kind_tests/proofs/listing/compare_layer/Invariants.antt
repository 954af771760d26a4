use Rattle.std.proofs.Common.{◌≡◌}
use Rattle.kind_tests.proofs.listing.compare_layer.Given as goal

abbrev pub invariant-loop-v : goal.invariant-loop-v
invariant-loop-v g l = l.scratch ≡ l.fn.scratch
