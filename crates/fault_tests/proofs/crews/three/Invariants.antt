use Rattle.std.proofs.Common.{ℕ, ◌<◌, length, slice_index_or}
use Rattle.std.specs.Prelude.{IsSome}
use Rattle.fault_tests.proofs.crews.three.Given as goal

abbrev pub invariant-loop-number : goal.invariant-loop-number
invariant-loop-number l = record {
  each : (k : ℕ) (d : _) → k < length l.all.items → IsSome (slice_index_or l.all.items k d);
}
