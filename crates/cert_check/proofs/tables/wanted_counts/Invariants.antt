use Rattle.std.proofs.Common.{◌≡◌, ℕ, ◌<◌, cond, length, get_or, take}
use Rattle.flow_model.specs.Groups.{is_source}
use Rattle.cert_check.proofs.tables.wanted_counts.Given as goal

abbrev pub invariant-loop-k : goal.invariant-loop-k
invariant-loop-k l = record {
  len : length l.wanted.items ≡ l.nodes;
  value : (c : ℕ) → c < l.nodes → get_or l.wanted.items c 0 ≡ cond (is_source (take l.k-index l.commodities) c) 1 0;
}
