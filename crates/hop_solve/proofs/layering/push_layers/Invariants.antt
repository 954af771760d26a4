use Rattle.std.proofs.Common.{◌≡◌, length}
use Rattle.hop_solve.specs.Numbers.{AddsLayers, IsSearchedNumber, first_layers}
use Rattle.hop_solve.proofs.layering.push_layers.Given as goal

abbrev pub invariant-loop-index : goal.invariant-loop-index
invariant-loop-index l = record {
  values : length l.finder.values.items ≡ length l.fn.finder.values.items;
  plain : l.finder.plain ≡ l.fn.finder.plain;
  layered : l.finder.layered ≡ l.fn.finder.layered;
  layers : AddsLayers l.fn.finder.layered.nodes (IsSearchedNumber l.kind l.fn.finder.layered) (first_layers l.node l.index) l.fn.layers l.layers;
}
