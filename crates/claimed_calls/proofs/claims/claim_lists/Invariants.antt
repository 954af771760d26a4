use Rattle.std.proofs.Common.{ℕ, ◌<◌, slice_index_or}
use Rattle.claimed_calls.specs.Answers.{AreClaimed}
use Rattle.claimed_calls.proofs.claims.claim_lists.Given as goal

abbrev pub invariant-loop-entries : goal.invariant-loop-entries
invariant-loop-entries g l = (k : ℕ) (d : _) → k < l.entries-index → AreClaimed g.F.Fn l.work (slice_index_or l.lists k d).items
