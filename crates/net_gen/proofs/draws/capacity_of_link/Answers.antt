use Rattle.std.proofs.Common.{sym}
use Rattle.net_gen.proofs.Drawing.{past_none}
use Rattle.net_gen.proofs.draws.capacity_of_link.Goals as goal

pub returns-then-i-eq0-clause-rest : goal.returns-then-i-eq0-clause-rest
returns-then-i-eq0-clause-rest c = rw (c.if-i-eq0.true) (sym (past_none _))
