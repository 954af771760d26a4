use Rattle.std.proofs.Common.{rules, List, sym, subst}
use Rattle.std.proofs.lemmas.Result.{on_ok_weaker}
use Rattle.phase_engine.specs.declared.hand.Hand.{Hand}
use Rattle.flow_solver.specs.declared.places.Place.{Place}
use Rattle.flow_solver.specs.Adding.{ArePlaces, IsNoted}
use Rattle.flow_solver.proofs.Routing.{noted-by}
use Rattle.flow_solver.proofs.bounding.note_beside_bound.Goals as goal

pub returns-clause-noted : goal.returns-clause-noted
returns-clause-noted g c =
    let net = c.args.task.now.on.now.net.now in
    let hands = c.args.search.now.spare.items in
    let places : ArePlaces net hands c.as_slice-places.result.now =
    subst (λ (ps : List Place). ArePlaces net hands ps) (sym c.as_slice-places.ensures.value)
    (subst (λ (hs : List Hand). ArePlaces net hs c.in_ok-places.places.items) c.deref.ensures.value c.in_ok-places.ensures.places) in
    let noted : IsNoted net c.as_slice-places.result.now c.args.search.now.history c.join_mut-noted.new.f.0.now = search rules in
    on_ok_weaker c.join_mut-noted.result.1 (λ room. (noted-by net hands c.as_slice-places.result.now c.args.search.now.history c.join_mut-noted.new.f.0.now (search rules) noted places, room)) (search rules)
