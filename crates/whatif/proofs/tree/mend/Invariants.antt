use Rattle.std.proofs.Common.{◌≡◌, ◌≢◌, ℕ, ◌+◌, ◌*◌, ◌<◌, ◌≤◌, length, drop, All}
use Rattle.whatif.specs.Ratios.{IsRatio}
use Rattle.whatif.specs.Tournament.{IsWon}
use Rattle.whatif.proofs.tree.mend.Given as goal

abbrev pub invariant-up : goal.invariant-up
invariant-up l = record {
  some : 1 ≤ l.i;
  within : l.i < 2 * l.leaves;
  count : length l.nodes ≡ 2 * l.leaves;
  ratios : All IsRatio l.nodes;
  leaves_are : drop l.leaves l.nodes ≡ drop l.leaves l.fn.nodes;
  won : (i : ℕ) → 1 ≤ i → i < l.leaves → 2 * i ≢ l.i → 2 * i + 1 ≢ l.i → IsWon l.nodes i;
}

abbrev pub decreases-up : goal.decreases-up
decreases-up l = l.i
