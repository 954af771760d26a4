-- A share may go to another thread.
use denote.RattleType.{RattleType}
use denote.Param.Send.{IsSend, IsSync, sendable}
use denote.Param.SendFields.{declared_send, variants_send}
use Rattle.std.proofs.Crossing.{crosses}
use Rattle.dijkstra_paths.specs.contracts.graph.Graph as graph
use Rattle.dual_bound.specs.contracts.rows.Row as row
use Rattle.dual_bound.specs.contracts.rows.Target as target
use Rattle.fixed_exp.specs.contracts.powers.Powers as powers
use Rattle.flow_model.specs.contracts.groups.Groups as groups
use Rattle.flow_model.specs.contracts.net.Net as net
use Rattle.load_table.proofs.loads.Loads.TheSendSync as loads
use Rattle.phase_engine.proofs.Sent.{hand-send}
use Rattle.flow_solver.specs.contracts.prepared.Prepared as prepared
use Rattle.flow_solver.specs.contracts.turn.Turn as turn
use Rattle.flow_solver.specs.contracts.parts.Part as part
use Rattle.flow_solver.specs.contracts.share.Share as share

target-send : IsSend target.the_row
target-send = search (sendable, crosses) depth 20

target-sync : IsSync target.the_row
target-sync = search (sendable, crosses) depth 20

row-send : IsSend row.the_row
row-send = search (sendable, crosses, target-send) depth 40

row-sync : IsSync row.the_row
row-sync = search (sendable, crosses, target-sync) depth 40

net-sync : IsSync net.the_row
net-sync = search (sendable, crosses) depth 20

groups-sync : IsSync groups.the_row
groups-sync = search (sendable, crosses) depth 20

graph-sync : IsSync graph.the_row
graph-sync = search (sendable, crosses) depth 20

powers-sync : IsSync powers.the_row
powers-sync = search (sendable, crosses) depth 20

prepared-sync : (ℓ : _) → IsSync (prepared.the_row ℓ)
prepared-sync ℓ = search (sendable, net-sync, groups-sync, graph-sync, powers-sync) depth 20

turn-send : (ℓ : _) (G : RattleType) → IsSync G → IsSend (turn.the_row ℓ G)
turn-send ℓ G sync = declared_send (turn.the_type ℓ G) (
  search (sendable, prepared-sync),
  (search sendable depth 20, (search sendable depth 20, (search (sendable, sync), (search (crosses, loads.the_send, loads.the_sync) depth 6, (search (crosses, row-send, row-sync) depth 6, (search (crosses, hand-send) depth 6, tt)))))),
)

part-send : (ℓ : _) → IsSend (part.the_row ℓ)
part-send ℓ = declared_send (part.the_type ℓ) (
  search (sendable, graph-sync),
  (search sendable depth 20, (search (sendable, crosses) depth 20, (search (crosses, row-send) depth 6, tt))),
)

pub share-send : (ℓ : _) (G : RattleType) → IsSync G → IsSend (share.the_row ℓ G)
share-send ℓ G sync = variants_send (share.enum ℓ G) ((turn-send ℓ G sync, tt), ((part-send ℓ, tt), tt))
