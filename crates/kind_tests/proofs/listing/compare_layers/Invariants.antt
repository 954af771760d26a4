use Rattle.std.proofs.Common.{◌≡◌}
use Rattle.kind_tests.proofs.listing.compare_layers.Given as goal

abbrev pub invariant-loop-layer : goal.invariant-loop-layer
invariant-loop-layer g l = record {
  nodes : l.scratch.nodes ≡ l.net.nodes;
  made : l.scratch.made ≡ 5;
}
