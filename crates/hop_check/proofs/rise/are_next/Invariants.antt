use Rattle.std.proofs.Common.{ℕ, ◌+◌, ◌<◌, get_or}
use Rattle.hop_check.specs.Layers.{layer_in}
use Rattle.hop_check.specs.Tables.{IsNextLayer}
use Rattle.hop_check.proofs.rise.are_next.Given as goal

abbrev pub invariant-loop-node : goal.invariant-loop-node
invariant-loop-node l = (v i : ℕ) → v < l.node → i + 1 < get_or l.counts v 0 → IsNextLayer l.net l.lengths (layer_in l.layers v i) (layer_in l.layers v (i + 1))
