use Rattle.std.proofs.Common.{rules, ◌++◌, [], List, refl, ap, ◌∙◌, arith}
use Rattle.std.proofs.lemmas.Result.{on_ok_weaker}
use Rattle.std.proofs.lemmas.List.{with_items_is}
use Rattle.std.proofs.lemmas.List.Elements.{All-nil}
use Rattle.std.specs.Arc.{arc_value}
use Rattle.std.specs.Vec.{with_items}
use Rattle.dual_bound.specs.declared.rows.Row.{Row}
use Rattle.dual_bound.specs.Rows.{HasDistances}
use Rattle.flow_solver.specs.Shares.{rows_in}
use Rattle.flow_solver.proofs.Parting.{filled-together}
use Rattle.flow_solver.proofs.Sent.{share-send}
use denote.Exit.{no}
use denote.Param.Send.{arg_send, param_send, param_sync}
use Rattle.flow_solver.proofs.filling.fill_with.Goals as goal

pub work_beside-whole-requires-send-J : goal.work_beside-whole-requires-send-J
work_beside-whole-requires-send-J g c κs within = param_send 0 _ (arg_send _ no _ (share-send _ _ (param_sync 0 _ c.type_bounds.sync-G)))

pub returns-clause-demands : goal.returns-clause-demands
returns-clause-demands g c =
    let net = c.args.task.now.on.now.graph.now in
    let lengths = (arc_value c.args.lengths.now).items in
    let parts = c.in-Ok.parts in
    let jobs = c.work_beside-whole.new.jobs in
    let now = with_items parts jobs in
    on_ok_weaker c.append_parts.result (λ together.
    (filled-together net lengths c.args.rows.now.items [] [] parts.items c.deref_mut.result.now jobs c.in-Ok.ensures.rows c.deref_mut.ensures.value (omega arith) c.in-Ok.ensures.parts (search rules)
    refl (All-nil (HasDistances net lengths)) now.items (with_items_is parts jobs (omega arith)) c.append_parts.new.rows.items
    (together ∙ ap (λ (rs : List Row). rs ++ rows_in now.items) c.in-Ok.ensures.none)).0) c.append_parts.ensures

pub returns-clause-distances : goal.returns-clause-distances
returns-clause-distances g c =
    let net = c.args.task.now.on.now.graph.now in
    let lengths = (arc_value c.args.lengths.now).items in
    let parts = c.in-Ok.parts in
    let jobs = c.work_beside-whole.new.jobs in
    let now = with_items parts jobs in
    on_ok_weaker c.append_parts.result (λ together.
    (filled-together net lengths c.args.rows.now.items [] [] parts.items c.deref_mut.result.now jobs c.in-Ok.ensures.rows c.deref_mut.ensures.value (omega arith) c.in-Ok.ensures.parts (search rules)
    refl (All-nil (HasDistances net lengths)) now.items (with_items_is parts jobs (omega arith)) c.append_parts.new.rows.items
    (together ∙ ap (λ (rs : List Row). rs ++ rows_in now.items) c.in-Ok.ensures.none)).1) c.append_parts.ensures
