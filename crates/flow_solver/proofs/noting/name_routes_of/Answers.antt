use Rattle.std.proofs.Common.{subst, sym, arith}
use Rattle.flow_solver.specs.Adding.{ArePlaces}
use Rattle.flow_solver.proofs.Named.{has-begun}
use Rattle.flow_solver.proofs.noting.name_routes_of.Goals as goal

pub returns-clause-begun : goal.returns-clause-begun
returns-clause-begun c =
    let net = c.args.net.now in
    let hands = c.args.hands.now in
    let places : ArePlaces net hands c.deref.result.now = subst (ArePlaces net hands) (sym c.deref.ensures.value) c.in_ok-places.ensures.places in
    let e = c.in_ok-name_rows.ensures in
    has-begun net hands c.deref.result.now c.args.history.now c.name_rows.new.self c.args.entries.now.items c.name_rows.new.entries.items c.requires.can places c.name_rows.ensures.commodities c.name_rows.ensures.history
    c.name_rows.ensures.keeps e.begun (omega (arith, e.count, c.requires.until)) (e.named hands places)
