use Rattle.std.proofs.Common.{◌≡◌, ℕ, ◌<◌, ◌≤◌, get_or}
use Rattle.flow_model.specs.Least.{far_or}
use Rattle.dijkstra_paths.specs.Searched.{dist_at}
use Rattle.mcf_limits.specs.declared.TheConstants.{MAX_LENGTH}
use Rattle.dual_bound.proofs.rows.put_distances.Given as goal

abbrev pub invariant-loop-v : goal.invariant-loop-v
invariant-loop-v l = record {
  each : (k : ℕ) → k < l.v → get_or l.values k 0 ≡ far_or (dist_at l.scratch k);
  small : (k : ℕ) → k < l.v → get_or l.values k 0 ≤ MAX_LENGTH;
}
