use Rattle.std.proofs.Common.{ℕ, ◌+◌, ◌<◌}
use Rattle.hop_check.specs.Layers.{layer_in}
use Rattle.hop_check.specs.Tables.{IsNextLayer}
use Rattle.hop_check.proofs.rise.node_rises.Given as goal

abbrev pub invariant-loop-index : goal.invariant-loop-index
invariant-loop-index l = (i : ℕ) → i + 1 < l.index → IsNextLayer l.net l.lengths (layer_in l.layers l.node i) (layer_in l.layers l.node (i + 1))
