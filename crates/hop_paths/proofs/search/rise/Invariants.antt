use Rattle.std.proofs.Common.{ℕ, ◌+◌, ◌<◌, get_or}
use Rattle.mcf_limits.specs.declared.TheConstants.{MAX_LENGTH}
use Rattle.hop_paths.specs.Searching.{IsNext, IsGoneOn, IsSettled, IsSameBelow}
use Rattle.hop_paths.proofs.search.rise.Given as goal

abbrev pub invariant-loop-node : goal.invariant-loop-node
invariant-loop-node l = record {
  state : IsNext l.graph.cells l.lengths l.graph.nodes l.dist l.steps l.base;
  settled : IsSettled l.graph.cells l.lengths l.graph.nodes l.dist l.steps l.base;
  all : (u : ℕ) → u < l.node → get_or l.dist (l.base + u) 0 < MAX_LENGTH → IsGoneOn l.graph.cells l.lengths l.graph.nodes l.dist l.base u;
  front : IsSameBelow (l.base + l.graph.nodes) l.fn.dist l.dist l.fn.steps l.steps;
}
