use Rattle.std.proofs.Common.{ℕ, ◌<◌, ◌≤◌, length}
use Rattle.flow_model.specs.Groups.{members_of}
use Rattle.phase_engine.proofs.worker.greatest_group.Given as goal

abbrev pub invariant-loop-g : goal.invariant-loop-g
invariant-loop-g l = (k : ℕ) → k < l.g → length (members_of l.net k) ≤ l.most
