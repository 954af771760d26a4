use Rattle.std.proofs.Common.{◌≡◌, map}
use Rattle.std.specs.Prelude.{All, flat_map}
use Rattle.std.specs.List.{range_with_len}
use Rattle.hop_check.specs.LayerRows.{Layer}
use Rattle.hop_solve.specs.Run.{IsLayerWith}
use Rattle.hop_solve.specs.Turns.{IsFinder}
use Rattle.hop_solve.specs.Numbers.{IsNumber, asked_of}
use Rattle.hop_solve.proofs.layering.all_layers.Given as goal

abbrev pub invariant-loop-node : goal.invariant-loop-node
invariant-loop-node l = record {
  finder : IsFinder l.on.net.now l.on.counts.now l.finder;
  places : map (λ (r : Layer). (r.node, r.index)) l.layers ≡ flat_map (asked_of l.on.net.now l.on.limits.now) (range_with_len 0 l.node);
  each : All (IsLayerWith l.on.net.now.nodes (IsNumber l.kind l.on.net.now.cells l.lengths)) l.layers;
}
