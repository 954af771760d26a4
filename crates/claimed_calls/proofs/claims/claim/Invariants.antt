use Rattle.claimed_calls.specs.Answers.{AreClaimed}
use Rattle.claimed_calls.proofs.claims.claim.Given as goal

abbrev pub invariant-claims : goal.invariant-claims
invariant-claims g l = AreClaimed g.F.Fn l.work l.entries.items
