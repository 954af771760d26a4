-- A room, and with it a hand, may go to another thread.
use denote.Param.Send.{IsSend, sendable}
use Rattle.std.proofs.Crossing.{crosses}
use Rattle.dijkstra_paths.proofs.scratch.Scratch.TheSendSync as scratch
use Rattle.fixed_exp.specs.contracts.length_table.LengthTable as table
use Rattle.phase_engine.specs.contracts.room.Room as room
use Rattle.phase_engine.specs.contracts.hand.Hand as hand
use Rattle.phase_engine.proofs.routes.Routes.TheSendSync as routes
use Rattle.phase_engine.proofs.worker.Worked.TheSendSync as worked

lengths-send : IsSend table.the_row
lengths-send = search (sendable, crosses) depth 20

room-send : IsSend room.the_row
room-send = search (sendable, crosses, lengths-send) depth 20

pub hand-send : IsSend hand.the_row
hand-send = search (sendable, room-send, scratch.the_send, routes.the_send, worked.the_send) depth 20
