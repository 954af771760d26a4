use Rattle.std.proofs.Common.{sym}
use Rattle.net_solve.proofs.Entries.{run-routes}
use Rattle.net_solve.proofs.tally.route_count.Goals as goal

pub returns : goal.returns
returns c = rw (c.phases.ensures, c.commodities.ensures.value) (sym (run-routes c.args.net.now c.requires.0 c.args.solved.now c.requires.1.history))
