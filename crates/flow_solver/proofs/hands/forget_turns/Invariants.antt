use Rattle.std.proofs.Common.{◌≡◌, ℕ, ◌<◌, ◌≤◌, [], None, slice_index_or}
use Rattle.phase_engine.specs.declared.hand.Hand.{Hand}
use Rattle.phase_engine.specs.Hands.{IsSameWorker}
use Rattle.flow_solver.proofs.hands.forget_turns.Given as goal

abbrev pub invariant-loop-hand : goal.invariant-loop-hand
invariant-loop-hand l = record {
  over : (k : ℕ) (d : Hand) → k < l.hand-index → (slice_index_or l.hands k d).turn ≡ None;
  cleared : (k : ℕ) (d : Hand) → k < l.hand-index → (slice_index_or l.hands k d).routes ≡ [];
  back : (k : ℕ) (d : Hand) → k < l.hand-index → IsSameWorker (slice_index_or l.initial.hands k d) (slice_index_or l.hands k d) × ((slice_index_or l.hands k d).room ≡ (slice_index_or l.initial.hands k d).room);
  rest : (k : ℕ) (d : Hand) → l.hand-index ≤ k → slice_index_or l.hands k d ≡ slice_index_or l.initial.hands k d;
}
