use Rattle.std.proofs.Common.{◌≡◌, ◌-◌, ◌*◌, ◌≤◌, ◌++◌, take, length}
use Rattle.load_table.specs.Seen.{IsPassOf}
use Rattle.load_table.specs.Adding.{HasAddedAll}
use Rattle.phase_engine.specs.Steps.{adds_of}
use Rattle.phase_engine.specs.Found.{routes_to}
use Rattle.phase_engine.proofs.steps.route_group.Given as goal

abbrev pub invariant-loop-k : goal.invariant-loop-k
invariant-loop-k l = record {
  of : IsPassOf l.loads l.pass;
  view : HasAddedAll (adds_of (routes_to l.net l.scratch (take l.k-index l.members))) l.fn.pass.view l.pass.view;
  routes : l.buffer.routes ≡ l.fn.buffer.routes ++ routes_to l.net l.scratch (take l.k-index l.members);
  paths : length l.members - l.k-index ≤ l.buffer.paths;
  cells : (length l.members - l.k-index) * l.net.nodes ≤ l.buffer.cells;
}
