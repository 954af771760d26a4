use Rattle.std.proofs.Common.{◌≡◌}
use Rattle.std.specs.List.{filter, range_with_len}
use Rattle.flow_model.specs.Groups.{is_source}
use Rattle.flow_model.proofs.groups.sources_of.Given as goal

abbrev pub invariant-loop-v : goal.invariant-loop-v
invariant-loop-v l = l.sources.items ≡ filter (is_source l.commodities) (range_with_len 0 l.v)
