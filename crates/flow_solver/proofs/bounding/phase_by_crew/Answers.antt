use Rattle.std.proofs.lemmas.Result.{on_ok_weaker}
use Rattle.flow_solver.proofs.Routing.{added-beside}
use Rattle.flow_solver.proofs.bounding.phase_by_crew.Goals as goal

pub returns-clause-added : goal.returns-clause-added
returns-clause-added g c =
    let e = c.note_with_bound.ensures in
    on_ok_weaker c.note_with_bound.result
    (λ noted. added-beside c.args.task.now.on.now.net.now c.args.task.now.setting c.args.search.now c.route_with.new.search c.note_with_bound.new.search c.route_with.new.entries.items c.in_ok-route_with.ensures.routed c.in_ok-route_with.ensures.begun e.kept.loads e.kept.hands e.kept.spare noted.0 noted.1) e.noted
