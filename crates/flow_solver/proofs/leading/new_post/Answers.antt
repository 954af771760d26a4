use denote.Exit.{no}
use denote.Param.Send.{arg_send, param_send, param_sync}
use Rattle.flow_solver.proofs.Sent.{share-send}
use Rattle.flow_solver.proofs.leading.new_post.Goals as goal

pub new-requires-send-J : goal.new-requires-send-J
new-requires-send-J g c κs within = param_send 0 _ (arg_send _ no _ (share-send _ _ (param_sync 0 _ c.type_bounds.sync-G)))
