use Rattle.std.proofs.Common.{List, arith, sym, subst}
use Rattle.flow_model.specs.Groups.{group_count}
use Rattle.phase_engine.specs.Routes.{Route}
use Rattle.phase_engine.specs.Going.{IsGoing}
use Rattle.phase_engine.proofs.Goings.{stops}
use Rattle.phase_engine.proofs.worker.claim_all.Goals as goal

pub returns-then-ticket-group_count-clause-worked : goal.returns-then-ticket-group_count-clause-worked
returns-then-ticket-group_count-clause-worked g c =
    let t = c.args.shared.now.loads.now.terms in
    let going = subst (λ (xs : List Route). IsGoing t c.args.worker c.claims.pass.view.hands xs) (sym c.reserve.ensures.same) c.claims.invariant.going in
    stops t c.args.worker (group_count t.net) c.claim-ticket.result c.reserve.new.self.routes c.args.pass.now.view c.claims.pass.view c.claim-ticket.new.pass.view going c.claim-ticket.ensures.view (omega arith) c.claims.invariant.left c.claims.invariant.made
