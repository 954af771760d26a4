use Rattle.std.proofs.Common.{◌≡◌, ◌*◌, ◌≤◌, take}
use Rattle.std.specs.List.{sum_by, enumerate_from}
use Rattle.mcf_limits.specs.declared.TheConstants.{MAX_LENGTH}
use Rattle.hop_paths.specs.Allowed.{limit_at}
use Rattle.hop_check.specs.Layers.{hop_distance}
use Rattle.hop_check.proofs.distance.weighted.Given as goal

abbrev pub invariant-loop-k : goal.invariant-loop-k
invariant-loop-k l = record {
  value : l.total ≡ sum_by (λ j. j.1.amount * hop_distance (record { dual = l.dual; layers = l.layers }) (limit_at l.limits j.0) j.1) (take l.k (enumerate_from 0 l.net.commodities));
  bound : l.total ≤ MAX_LENGTH * sum_by (λ k. k.amount) (take l.k l.net.commodities);
}
