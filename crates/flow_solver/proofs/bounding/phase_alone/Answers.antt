use Rattle.std.proofs.lemmas.Result.{on_ok_weaker}
use Rattle.flow_solver.proofs.Routing.{added-phase}
use Rattle.flow_solver.proofs.bounding.phase_alone.Goals as goal

pub returns-then-beside-eq0-clause-added : goal.returns-then-beside-eq0-clause-added
returns-then-beside-eq0-clause-added g c =
    let e = c.note_and_bound.ensures in
    on_ok_weaker c.note_and_bound.result
    (λ noted. added-phase c.args.task.now.on.now.net.now c.args.task.now.setting c.args.search.now c.route.new.search c.note_and_bound.new.search c.in_ok-route.ensures e.kept.loads e.kept.hands e.kept.spare noted.0 noted.1) e.noted

pub returns-else-beside-eq0-clause-added : goal.returns-else-beside-eq0-clause-added
returns-else-beside-eq0-clause-added g c =
    let e = c.note_beside_bound.ensures in
    on_ok_weaker c.note_beside_bound.result
    (λ noted. added-phase c.args.task.now.on.now.net.now c.args.task.now.setting c.args.search.now c.route.new.search c.note_beside_bound.new.search c.in_ok-route.ensures e.kept.loads e.kept.hands e.kept.spare noted.0 noted.1) e.noted
