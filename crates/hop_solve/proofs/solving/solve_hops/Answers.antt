use Rattle.hop_check.proofs.Sound.{hops_certify}
use Rattle.hop_solve.proofs.Valid.{run-valid, run-fits}
use Rattle.hop_solve.proofs.solving.solve_hops.Goals as goal

pub returns-clause-fits : goal.returns-clause-fits
returns-clause-fits c =
    run-fits c.args.net.now c.args.limits.now c.args.options.now c.in_ok-h.h c.nodes-nodes.ensures.net c.requires.limits c.requires.options c.in_ok-h.ensures.run c.in_ok-h.ensures.micro.0 c.in_ok-h.ensures.micro.1

pub returns-clause-valid : goal.returns-clause-valid
returns-clause-valid c = run-valid c.args.net.now c.args.limits.now c.args.options.now c.in_ok-h.h c.nodes-nodes.ensures.net c.requires.limits c.requires.options c.in_ok-h.ensures.run

pub returns-clause-certified : goal.returns-clause-certified
returns-clause-certified c =
    hops_certify c.args.net.now c.args.limits.now c.in_ok-h.h c.nodes-nodes.ensures.net (run-valid c.args.net.now c.args.limits.now c.args.options.now c.in_ok-h.h c.nodes-nodes.ensures.net c.requires.limits c.requires.options c.in_ok-h.ensures.run)
