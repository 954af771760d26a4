use Rattle.std.proofs.Common.{◌≡◌, ℕ, ◌<◌, ◌≤◌, get_or}
use Rattle.mcf_limits.specs.declared.TheConstants.{MAX_LENGTH}
use Rattle.hop_paths.specs.Searched.{layer_dist}
use Rattle.hop_solve.specs.declared.layering.Numbers.TheVariants.{Marks}
use Rattle.hop_solve.specs.Numbers.{number_of}
use Rattle.hop_solve.proofs.layering.put_marks.Given as goal

abbrev pub invariant-loop-v : goal.invariant-loop-v
invariant-loop-v l = record {
  each : (k : ℕ) → k < l.v → get_or l.values k 0 ≡ number_of Marks (layer_dist l.layered l.index k);
  small : (k : ℕ) → k < l.v → get_or l.values k 0 ≤ MAX_LENGTH;
}
