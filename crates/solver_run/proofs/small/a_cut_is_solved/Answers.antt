use Rattle.solver_run.proofs.SmallCut.{cut-network, cut-options, cut-run, cut-solved}
use Rattle.solver_run.proofs.small.a_cut_is_solved.Goals as goal

pub returns : goal.returns
returns c = record { network = cut-network; options = cut-options; run = cut-run; solved = cut-solved }
