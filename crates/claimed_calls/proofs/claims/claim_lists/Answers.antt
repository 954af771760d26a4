use Rattle.std.proofs.Common.{arith}
use Rattle.claimed_calls.specs.Answers.{AreClaimed}
use Rattle.claimed_calls.proofs.Claiming.{set_each}
use Rattle.claimed_calls.proofs.claims.claim_lists.Goals as goal

pub loop-entries-preserved : goal.loop-entries-preserved
loop-entries-preserved g c = set_each (λ entries. AreClaimed g.F.Fn c.args.work.now entries.items) c.loop-entries.lists c.loop-entries.entries-index c.claim.result c.claim.ensures c.loop-entries.invariant (omega arith)
