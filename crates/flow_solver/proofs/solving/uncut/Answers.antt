use Rattle.flow_solver.proofs.Fewer.{run-of-fewer}
use Rattle.flow_solver.proofs.solving.uncut.Goals as goal

pub returns-clause-run : goal.returns-clause-run
returns-clause-run g c = run-of-fewer c.args.net.now c.args.options.now c.with_fewer_workers-fewer.result c.in_ok-solved.solved c.with_fewer_workers-fewer.ensures.fewer c.in_ok-solved.ensures.run
