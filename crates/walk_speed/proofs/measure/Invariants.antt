use Rattle.std.proofs.Common.{◌≡◌, ◌≤◌, All, length}
use Rattle.mcf_limits.specs.declared.TheConstants.{MAX_LENGTH}
use Rattle.walk_speed.proofs.measure.Given as goal

abbrev pub invariant-loop-round : goal.invariant-loop-round
invariant-loop-round g l = record {
  net : l.table.net ≡ l.net;
  nodes : l.scratch.nodes ≡ l.net.nodes;
  small : All (λ x. x ≤ MAX_LENGTH) l.loads;
  count : length l.lengths.items ≡ length l.net.cells;
}
