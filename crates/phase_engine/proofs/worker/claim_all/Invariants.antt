use Rattle.std.proofs.Common.{◌≡◌, ◌-◌}
use Rattle.flow_model.specs.Groups.{group_count}
use Rattle.load_table.specs.Seen.{IsPassOf}
use Rattle.phase_engine.specs.Rooms.{IsRoomOf}
use Rattle.phase_engine.specs.Going.{IsGoing, next_ticket}
use Rattle.phase_engine.proofs.worker.claim_all.Given as goal

abbrev pub invariant-claims : goal.invariant-claims
invariant-claims g l = record {
  of : IsPassOf l.shared.loads.now l.pass;
  left : l.pass.view.left ≡ l.fn.pass.view.left;
  made : l.pass.view.made ≡ l.fn.pass.view.made;
  going : IsGoing l.shared.loads.now.terms l.worker l.pass.view.hands l.buffer.routes;
  room : IsRoomOf l.shared.input.now.net.now l.room;
  setting : l.room.lengths.setting ≡ l.shared.loads.now.terms.setting;
  nodes : l.scratch.nodes ≡ l.fn.scratch.nodes;
  cells : l.scratch.cells ≡ l.fn.scratch.cells;
}

abbrev pub decreases-claims : goal.decreases-claims
decreases-claims g l = group_count l.shared.input.now.net.now - next_ticket l.pass.view.hands
