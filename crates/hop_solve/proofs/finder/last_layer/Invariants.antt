use Rattle.std.proofs.Common.{ℕ, ◌+◌, ◌<◌, ◌≤◌, slice_index}
use Rattle.mcf_limits.specs.declared.TheConstants.{MAX_HOPS}
use Rattle.hop_solve.proofs.finder.last_layer.Given as goal

abbrev pub invariant-loop-count : goal.invariant-loop-count
invariant-loop-count l = record {
  some : 1 ≤ l.most;
  most : (v : ℕ) → v < l.count-index → slice_index l.counts v ≤ l.most;
  small : l.most ≤ MAX_HOPS + 1;
}
