use Rattle.std.proofs.Common.{◌≡◌, ℕ, ◌<◌, ◌≤◌, slice_index_or, Option}
use Rattle.claimed_calls.specs.Jobs.{IsWorked}
use Rattle.claimed_calls.proofs.crew.work_all.Given as goal

abbrev pub invariant-loop-job : goal.invariant-loop-job
invariant-loop-job g l = record {
  done : (k : ℕ) (d : Option g.row.J.Denot) → k < l.job-index → IsWorked g.J.Job.does (slice_index_or l.initial.jobs k d) (slice_index_or l.jobs k d);
  rest : (k : ℕ) (d : Option g.row.J.Denot) → l.job-index ≤ k → slice_index_or l.jobs k d ≡ slice_index_or l.initial.jobs k d;
}
