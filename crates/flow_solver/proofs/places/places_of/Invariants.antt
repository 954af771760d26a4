use Rattle.std.proofs.Common.{◌≡◌, length}
use Rattle.flow_solver.proofs.Placed.{ArePlaced}
use Rattle.flow_solver.proofs.places.places_of.Given as goal

abbrev pub invariant-loop-w : goal.invariant-loop-w
invariant-loop-w l = record {
  count : length l.places.items ≡ length l.fn.net.commodities;
  placed : ArePlaced l.hands l.places.items l.w;
}
