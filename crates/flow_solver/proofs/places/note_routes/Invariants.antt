use Rattle.std.proofs.Common.{take}
use Rattle.std.specs.Prelude.{All}
use Rattle.flow_solver.proofs.Placed.{AreKept, IsNoted}
use Rattle.flow_solver.proofs.places.note_routes.Given as goal

abbrev pub invariant-loop-route : goal.invariant-loop-route
invariant-loop-route l = record {
  kept : AreKept l.w l.hand l.initial.places l.places;
  noted : All (IsNoted l.w l.hand l.places) (take l.route l.hand.routes);
}
