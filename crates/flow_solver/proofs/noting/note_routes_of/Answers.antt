use Rattle.std.proofs.Common.{rules, ap, ◌∙◌}
use Rattle.std.proofs.lemmas.Result.{on_ok_weaker}
use Rattle.flow_solver.proofs.Named.{noted-end, whole}
use Rattle.flow_solver.proofs.noting.note_routes_of.Goals as goal

pub returns : goal.returns
returns c =
    let net = c.args.net.now in
    let mid = c.name_routes_of.new.history in
    on_ok_weaker c.append_phase.result
    (λ is. noted-end net c.args.hands.now c.args.history.now mid c.append_phase.new.self c.name_routes_of.new.entries.items c.in_ok-name_routes_of.ensures.begun (search rules) (is ∙ ap (whole mid) c.deref.ensures.value)) c.append_phase.ensures.ok
