use Rattle.std.proofs.Common.{◌≡◌, ◌++◌, length}
use Rattle.flow_solver.specs.Shares.{HasHand}
use Rattle.flow_solver.proofs.Turning.{Each}
use Rattle.flow_solver.proofs.turn.hands_of.Given as goal

abbrev pub invariant-loop-turn : goal.invariant-loop-turn
invariant-loop-turn g l = record {
  left : l.yielded ++ l.turn-iterator.rest.items ≡ l.fn.turns.items;
  count : length l.hands.items ≡ length l.yielded;
  each : Each HasHand l.yielded l.hands.items;
}
