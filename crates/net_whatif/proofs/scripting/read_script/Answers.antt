use Rattle.std.proofs.Common.{◌∙◌, ap, map}
use Rattle.flow_model.specs.Network.{Network}
use Rattle.net_whatif.proofs.Sizes.{cells_are_links, can_run}
use Rattle.net_whatif.proofs.scripting.read_script.Goals as goal

pub read-requires-clause-cells : goal.read-requires-clause-cells
read-requires-clause-cells c = cells_are_links c.args.rows.now c.args.net.now c.requires.certificate.names

pub returns-clause-steps : goal.returns-clause-steps
returns-clause-steps c =
    let rows = c.args.rows.now in
    let net = c.args.net.now in
    let plan_is = c.in_ok-plan.ensures ∙ ap (λ (n : Network). record { net = n; proof = c.args.proof.now; caps = map (λ c. c.cap) n.cells }) c.net.ensures.value in
    can_run rows net c.args.proof.now c.in_ok-plan.plan c.in-Ok.script c.requires.certificate.names plan_is c.in-Ok.ensures.links c.in-Ok.ensures.steps
