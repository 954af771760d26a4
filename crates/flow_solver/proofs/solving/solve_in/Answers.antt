use Rattle.solver_run.proofs.Solved.{run-solved}
use Rattle.flow_solver.proofs.solving.solve_in.Goals as goal

pub returns-clause-solved : goal.returns-clause-solved
returns-clause-solved g c = run-solved c.args.net.now c.args.options.now c.in_ok-solved.solved c.cells-cells.ensures.net c.requires c.in_ok-solved.ensures.run c.in_ok-solved.ensures.printed c.in_ok-solved.ensures.micro.0 c.in_ok-solved.ensures.micro.1
