use Rattle.std.proofs.Common.{◌≡◌, ◌+◌, ◌≤◌, ◌<◌, ℕ, length, drop, get_or}
use Rattle.flow_model.specs.Grouped.{first_from, from_at}
use Rattle.flow_model.proofs.groups.link.Given as goal

abbrev pub invariant-loop-k : goal.invariant-loop-k
invariant-loop-k l = record {
  first : (v : ℕ) → v < length l.first → get_or l.first v 0 ≡ first_from (drop l.k l.commodities) l.k v;
  next : (j : ℕ) → l.k ≤ j → j < length l.commodities → get_or l.next j 0 ≡ first_from (drop (j + 1) l.commodities) (j + 1) (from_at l.commodities j);
}
