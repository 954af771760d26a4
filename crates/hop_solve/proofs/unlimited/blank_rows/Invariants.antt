use Rattle.std.proofs.Common.{◌≡◌, All}
use Rattle.std.specs.List.{filter, range_with_len}
use Rattle.dual_bound.specs.Rows.{IsBlank, sources_of}
use Rattle.hop_paths.specs.Allowed.{is_unlimited}
use Rattle.hop_solve.proofs.unlimited.blank_rows.Given as goal

abbrev pub invariant-loop-v : goal.invariant-loop-v
invariant-loop-v l = record {
  sources : sources_of l.rows.items ≡ filter (is_unlimited l.on.net.now l.on.limits.now) (range_with_len 0 l.v);
  blank : All (IsBlank l.on.net.now.nodes) l.rows.items;
}
