use Rattle.std.proofs.Common.{◌≡◌, ℕ, ◌<◌, cond, length, get_or, take}
use Rattle.std.specs.Prelude.{◌&&◌, ◌==◌}
use Rattle.std.specs.Option.{is_none}
use Rattle.std.specs.List.{list_any, enumerate_from}
use Rattle.hop_paths.specs.Allowed.{limit_at}
use Rattle.hop_check.proofs.asked.unlimited_counts.Given as goal

abbrev pub invariant-loop-k : goal.invariant-loop-k
invariant-loop-k l = record {
  len : length l.wanted.items ≡ l.net.nodes;
  value : (s : ℕ) → s < l.net.nodes → get_or l.wanted.items s 0 ≡ cond (list_any (λ j. (j.1.from == s) && is_none (limit_at l.limits j.0)) (take l.k (enumerate_from 0 l.net.commodities))) 1 0;
}
