use Rattle.throughput.proofs.Sound.{parts_certify}
use Rattle.throughput.proofs.PartValid.{runs-are-valid, runs-fit}
use Rattle.throughput.proofs.solving.solve_parts.Goals as goal

pub returns-clause-fits : goal.returns-clause-fits
returns-clause-fits c =
    let is = c.in_ok-proof.ensures in
    runs-fit c.args.net.now c.args.options.now c.in_ok-proof.proof c.cells.ensures.net c.requires.options is.run is.load is.micro.0 is.micro.1

pub returns-clause-valid : goal.returns-clause-valid
returns-clause-valid c = runs-are-valid c.args.net.now c.args.options.now c.in_ok-proof.proof c.cells.ensures.net c.in_ok-proof.ensures.run

pub returns-clause-certified : goal.returns-clause-certified
returns-clause-certified c = parts_certify c.args.net.now c.in_ok-proof.proof (runs-are-valid c.args.net.now c.args.options.now c.in_ok-proof.proof c.cells.ensures.net c.in_ok-proof.ensures.run)
