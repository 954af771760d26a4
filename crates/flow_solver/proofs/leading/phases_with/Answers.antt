use denote.Exit.{no}
use denote.Param.Send.{arg_send, param_send, param_sync}
use Rattle.flow_solver.proofs.Sent.{share-send}
use Rattle.std.proofs.Common.{refl, arith}
use Rattle.flow_solver.proofs.leading.phases_with.Goals as goal

pub is_there-whole-requires-send-J : goal.is_there-whole-requires-send-J
is_there-whole-requires-send-J g c κs within = param_send 0 _ (arg_send _ no _ (share-send _ _ (param_sync 0 _ c.type_bounds.sync-G)))

pub is_there-requires-send-J : goal.is_there-requires-send-J
is_there-requires-send-J g c κs within = param_send 0 _ (arg_send _ no _ (share-send _ _ (param_sync 0 _ c.type_bounds.sync-G)))

pub rests-requires-send-J : goal.rests-requires-send-J
rests-requires-send-J g c κs within = param_send 0 _ (arg_send _ no _ (share-send _ _ (param_sync 0 _ c.type_bounds.sync-G)))

pub phases-preserved : goal.phases-preserved
phases-preserved g c = record {
  can = record {
    no_cut = c.requires.no_cut;
    options = c.requires.options;
    reached = c.in_ok-reached.ensures.reached;
    unmet = c.if-not-goes_on.ensures.unmet refl;
    budget = c.if-not-goes_on.ensures.budget refl;
  };
  more = omega (arith, c.in_ok-reached.ensures.count, c.phases.invariant.more);
}
