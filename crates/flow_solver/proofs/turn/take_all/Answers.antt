use denote.Exit.{no}
use Rattle.std.proofs.lemmas.Result.{IfOk-weaker}
use denote.Param.Send.{arg_send, param_send, param_sync}
use Rattle.std.proofs.Common.{rules, arith}
use Rattle.std.proofs.lemmas.List.{with_items_is}
use Rattle.std.specs.Arc.{arc_value}
use Rattle.flow_solver.proofs.Sent.{share-send}
use Rattle.flow_solver.proofs.Turning.{waits-all, some-all, runs-all}
use Rattle.flow_solver.proofs.turn.take_all.Goals as goal

pub work_beside-whole-requires-send-J : goal.work_beside-whole-requires-send-J
work_beside-whole-requires-send-J g c κs within = param_send 0 _ (arg_send _ no _ (share-send _ _ (param_sync 0 _ c.type_bounds.sync-G)))

pub work_beside-whole-requires-clause-jobs : goal.work_beside-whole-requires-clause-jobs
work_beside-whole-requires-clause-jobs g c κs within =
    waits-all (arc_value c.args.loads.now) c.args.hands.items c.in-Ok.turns.items c.deref_mut.result.now c.in-Ok.ensures.count c.in-Ok.ensures.turns c.deref_mut.ensures.value

pub hands_of-requires-after_bounds : goal.hands_of-requires-after_bounds
hands_of-requires-after_bounds g c κs within =
    some-all (arc_value c.args.loads.now) c.args.hands.items c.in-Ok.turns.items c.deref_mut.result.now c.work_beside-whole.new.jobs _ c.in-Ok.ensures.count c.in-Ok.ensures.turns c.deref_mut.ensures.value
    (omega arith) (search rules) (with_items_is c.in-Ok.turns c.work_beside-whole.new.jobs (omega arith))

pub returns-clause-runs : goal.returns-clause-runs
returns-clause-runs g c =
    let now = with_items_is c.in-Ok.turns c.work_beside-whole.new.jobs (omega arith) in
    IfOk-weaker c.hands_of.result _ _ (λ back. runs-all (arc_value c.args.loads.now) c.args.hands.items back.items c.in-Ok.turns.items c.deref_mut.result.now c.work_beside-whole.new.jobs _
    c.in-Ok.ensures.count c.in-Ok.ensures.turns c.deref_mut.ensures.value (omega arith) (search rules) now) c.hands_of.ensures.hands
