use Rattle.std.proofs.Common.{◌≡◌, ◌<◌, ℕ, length, get_or}
use Rattle.flow_model.specs.Grouped.{members_below}
use Rattle.flow_model.proofs.groups.Groups.new.Given as goal

abbrev pub invariant-loop-v : goal.invariant-loop-v
invariant-loop-v l = record {
  all : l.members.items ≡ members_below l.commodities l.v;
  count : length l.starts.items ≡ l.v;
  begins : (u : ℕ) → u < l.v → get_or l.starts.items u 0 ≡ length (members_below l.commodities u);
}
