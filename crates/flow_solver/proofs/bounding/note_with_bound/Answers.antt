use denote.Exit.{no}
use denote.Param.Send.{arg_send, param_send, param_sync}
use Rattle.flow_solver.proofs.Sent.{share-send}
use Rattle.flow_solver.proofs.bounding.note_with_bound.Goals as goal

pub last_waited_for-requires-send-J : goal.last_waited_for-requires-send-J
last_waited_for-requires-send-J g c κs within = param_send 0 _ (arg_send _ no _ (share-send _ _ (param_sync 0 _ c.type_bounds.sync-G)))

pub rests-requires-send-J : goal.rests-requires-send-J
rests-requires-send-J g c κs within = param_send 0 _ (arg_send _ no _ (share-send _ _ (param_sync 0 _ c.type_bounds.sync-G)))
