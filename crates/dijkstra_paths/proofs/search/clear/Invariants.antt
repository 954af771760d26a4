use Rattle.std.proofs.Common.{◌≡◌, ◌<◌, ℕ, get_or}
use Rattle.dijkstra_paths.proofs.search.clear.Given as goal
use Rattle.mcf_limits.specs.declared.TheConstants.{MAX_LENGTH}

abbrev pub invariant-loop-d : goal.invariant-loop-d
invariant-loop-d l = (v : ℕ) → v < l.d-index → get_or l.dist v 0 ≡ MAX_LENGTH
