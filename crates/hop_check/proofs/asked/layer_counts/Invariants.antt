use Rattle.std.proofs.Common.{◌≡◌, ℕ, ◌+◌, ◌<◌, ◌≤◌, length, get_or, take}
use Rattle.std.specs.Prelude.{◌&&◌, ◌==◌, nat_le, nat_lt, false}
use Rattle.std.specs.Option.{option_map_or}
use Rattle.std.specs.List.{list_any, enumerate_from}
use Rattle.mcf_limits.specs.declared.TheConstants.{MAX_HOPS}
use Rattle.hop_paths.specs.Allowed.{limit_at}
use Rattle.hop_check.proofs.asked.layer_counts.Given as goal

abbrev pub invariant-loop-k : goal.invariant-loop-k
invariant-loop-k l = record {
  len : length l.wanted.items ≡ l.net.nodes;
  small : (s : ℕ) → s < l.net.nodes → get_or l.wanted.items s 0 ≤ MAX_HOPS + 1;
  each : (s i : ℕ) → s < l.net.nodes → list_any (λ j. (j.1.from == s) && option_map_or (nat_le i) (limit_at l.limits j.0) false) (take l.k (enumerate_from 0 l.net.commodities)) ≡ nat_lt i (get_or l.wanted.items s 0);
}
