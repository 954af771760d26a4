use Rattle.std.proofs.Common.{List, subst}
use Rattle.std.proofs.lemmas.Result.{on_ok_weaker}
use Rattle.phase_engine.specs.declared.hand.Hand.{Hand}
use Rattle.flow_solver.specs.Adding.{HasNoted}
use Rattle.flow_solver.proofs.bounding.note_and_bound.Goals as goal

pub returns-clause-noted : goal.returns-clause-noted
returns-clause-noted g c =
    let net = c.args.task.now.on.now.net.now in
    let noted = subst (λ (hs : List Hand). HasNoted net hs c.args.search.now.history c.note_routes_of.new.history) c.deref.ensures.value c.in_ok-note_routes_of.ensures in
    on_ok_weaker c.bound_of.result (λ room. (noted, room)) c.bound_of.ensures.room
