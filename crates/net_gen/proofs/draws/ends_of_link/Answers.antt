use Rattle.std.proofs.Common.{sym}
use Rattle.net_gen.proofs.Drawing.{past_none, nat_lt-true}
use Rattle.net_gen.proofs.draws.ends_of_link.Goals as goal

pub returns-then-i-nodes-clause-rest : goal.returns-then-i-nodes-clause-rest
returns-then-i-nodes-clause-rest c = rw (nat_lt-true c.args.i c.args.nodes c.if-i-nodes.true) (sym (past_none _))
