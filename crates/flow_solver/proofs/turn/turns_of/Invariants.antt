use Rattle.std.proofs.Common.{◌≡◌, ◌++◌, length}
use Rattle.std.specs.Arc.{arc_value}
use Rattle.flow_solver.specs.Shares.{IsTurnOf}
use Rattle.flow_solver.proofs.Turning.{Each}
use Rattle.flow_solver.proofs.turn.turns_of.Given as goal

abbrev pub invariant-loop-hand : goal.invariant-loop-hand
invariant-loop-hand g l = record {
  left : l.yielded ++ l.hand-iterator.rest.items ≡ l.fn.hands.items;
  count : length l.turns.items ≡ length l.yielded;
  each : Each (IsTurnOf (arc_value l.loads)) l.yielded l.turns.items;
}
