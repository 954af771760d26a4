use Rattle.solver_run.proofs.SmallLink.{link-network, link-options, link-run, link-solved}
use Rattle.solver_run.proofs.small.a_phase_is_solved.Goals as goal

pub returns : goal.returns
returns c = record { network = link-network; options = link-options; run = link-run; solved = link-solved }
