use Rattle.std.proofs.Common.{◌≡◌, ◌-◌, ◌≤◌, ◌<◌, ◌++◌, length, drop}
use Rattle.flow_model.specs.Grouped.{members_from, from_at}
use Rattle.flow_model.proofs.groups.append_members.Given as goal

abbrev pub invariant-loop-at : goal.invariant-loop-at
invariant-loop-at l = record {
  within : l.at ≤ length l.commodities;
  of : l.at < length l.commodities → from_at l.commodities l.at ≡ l.from;
  all : l.members.items ++ members_from (drop l.at l.commodities) l.at l.from ≡ l.fn.members.items ++ members_from l.commodities 0 l.from;
}

abbrev pub decreases-loop-at : goal.decreases-loop-at
decreases-loop-at l = length l.commodities - l.at
