use Rattle.std.proofs.Common.{◌≡◌, ℕ, ◌+◌, ◌<◌, false, None, get_or}
use Rattle.hop_paths.specs.Searching.{step_at, IsSameBelow}
use Rattle.hop_paths.proofs.search.begin.Given as goal

abbrev pub invariant-loop-v : goal.invariant-loop-v
invariant-loop-v l = record {
  same : (v : ℕ) → v < l.v → get_or l.dist (l.base + l.nodes + v) 0 ≡ get_or l.dist (l.base + v) 0;
  none : (v : ℕ) → v < l.v → step_at l.steps (l.base + l.nodes + v) ≡ None;
  front : IsSameBelow (l.base + l.nodes) l.fn.dist l.dist l.fn.steps l.steps;
  still : l.nearer ≡ false → (v : ℕ) → v < l.v → step_at l.steps (l.base + v) ≡ None;
}
