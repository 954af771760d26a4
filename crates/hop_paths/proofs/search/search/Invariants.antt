use Rattle.std.proofs.Common.{◌≡◌, length}
use Rattle.hop_paths.specs.Searching.{IsSearched}
use Rattle.hop_paths.proofs.search.search.Given as goal

abbrev pub invariant-loop-layer : goal.invariant-loop-layer
invariant-loop-layer l = record {
  searched : IsSearched l.graph.cells l.lengths l.from l.graph.nodes l.dist l.steps l.layer;
  size : length l.dist ≡ length l.fn.dist;
  room : length l.steps ≡ length l.dist;
}
