use Rattle.std.proofs.Common.{◌≡◌, ℕ, ◌<◌, length}
use Rattle.std.specs.Prelude.{slice_index_or}
use Rattle.phase_engine.specs.declared.hand.Hand.{Hand}
use Rattle.phase_engine.specs.Hands.{IsFresh}
use Rattle.flow_solver.proofs.hands.new_hands.Given as goal

abbrev pub invariant-loop-worker : goal.invariant-loop-worker
invariant-loop-worker l = record {
  count : length l.hands.items ≡ l.worker;
  fresh : (k : ℕ) (d : Hand) → k < l.worker → IsFresh l.net k (slice_index_or l.hands.items k d);
}
