use Rattle.std.proofs.Common.{◌≡◌, ℕ, ◌+◌, ◌*◌, ◌<◌, ◌≤◌, length, drop, All}
use Rattle.whatif.specs.Ratios.{IsRatio}
use Rattle.whatif.specs.Tournament.{IsWon}
use Rattle.whatif.proofs.tree.settle.Given as goal

abbrev pub invariant-loop-k : goal.invariant-loop-k
invariant-loop-k l = record {
  count : length l.nodes ≡ 2 * l.leaves;
  ratios : All IsRatio l.nodes;
  leaves_are : drop l.leaves l.nodes ≡ drop l.leaves l.fn.nodes;
  won : (i : ℕ) → 1 ≤ i → i < l.leaves → l.leaves < i + l.k → IsWon l.nodes i;
}
