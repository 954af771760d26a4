use Rattle.std.proofs.Common.{◌≡◌, ◌-◌, ◌*◌, ◌≤◌, take}
use Rattle.std.specs.List.{sum_by}
use Rattle.mcf_limits.specs.declared.TheConstants.{MAX_LENGTH}
use Rattle.flow_paths.specs.Certificate.{distance_of}
use Rattle.throughput.proofs.bound.weighted_excess.Given as goal

abbrev pub invariant-loop-k : goal.invariant-loop-k
invariant-loop-k l = record {
  value : l.total ≡ sum_by (λ k. k.amount * (l.bound.threshold - distance_of l.bound.dual.potentials k)) (take l.k-index l.commodities);
  bound : l.total ≤ MAX_LENGTH * sum_by (λ k. k.amount) (take l.k-index l.commodities);
}
