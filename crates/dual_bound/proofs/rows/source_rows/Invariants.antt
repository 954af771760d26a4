use Rattle.std.proofs.Common.{◌≡◌, All, take}
use Rattle.dual_bound.specs.Rows.{IsBlank, demands_in, demands_of}
use Rattle.dual_bound.proofs.rows.source_rows.Given as goal

abbrev pub invariant-loop-g : goal.invariant-loop-g
invariant-loop-g l = record {
  demands : demands_of l.rows.items ≡ take l.g (demands_in l.net);
  blank : All (IsBlank l.net.nodes) l.rows.items;
}
