use Rattle.std.proofs.Common.{◌≡◌, length}
use Rattle.claimed_calls.specs.Answers.{AreAnswers}
use Rattle.claimed_calls.proofs.slots.completed.Given as goal

abbrev pub invariant-loop-number : goal.invariant-loop-number
invariant-loop-number g l = (length l.answers.items ≡ length l.yielded) × AreAnswers g.F.Fn l.work (length l.answers.items) l.answers.items
