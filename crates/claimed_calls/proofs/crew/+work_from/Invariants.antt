use Rattle.std.proofs.Common.{length, ◌+◌, ◌*◌}
use Rattle.claimed_calls.proofs.crew.+work_from.Given as goal

abbrev pub decreases-hand_and_lead : goal.decreases-hand_and_lead
decreases-hand_and_lead g l = 2 * length l.rest.now + 1

abbrev pub decreases-work_from : goal.decreases-work_from
decreases-work_from g l = 2 * length l.jobs.now
