use Rattle.std.proofs.Common.{◌≡◌, ◌≤◌, None, length, map, take, All}
use Rattle.std.specs.Prelude.{MatchOption}
use Rattle.mcf_limits.specs.declared.TheConstants.{MAX_HOPS}
use Rattle.sndlib_grammar.specs.Rows.{demand_at}
use Rattle.unit_scale.specs.Scaling.{first_line}
use Rattle.hop_check.specs.Limits.{limit_of, is_far}
use Rattle.hop_check.proofs.limits.hop_limits.Given as goal

abbrev pub invariant-loop-k : goal.invariant-loop-k
invariant-loop-k l = record {
  value : l.limits.items ≡ map (λ d. limit_of (length l.raw.nodes) (demand_at l.raw d)) (take l.k l.scaled.kept);
  none : first_line (is_far (length l.raw.nodes)) (λ d. d.line) (map (λ d. demand_at l.raw d) (take l.k l.scaled.kept)) ≡ None;
  small : All (λ limit. MatchOption limit (Unit {0}) (λ n. n ≤ MAX_HOPS)) l.limits.items;
}
