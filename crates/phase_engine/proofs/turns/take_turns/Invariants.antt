use Rattle.std.proofs.Common.{◌≡◌, ℕ, ◌<◌, ◌≤◌, slice_index_or}
use Rattle.phase_engine.specs.declared.hand.Hand.{Hand}
use Rattle.phase_engine.specs.Hands.{Runs}
use Rattle.phase_engine.proofs.turns.take_turns.Given as goal

abbrev pub invariant-loop-hand : goal.invariant-loop-hand
invariant-loop-hand g l = record {
  done : (k : ℕ) (d : Hand) → k < l.hand-index → Runs l.shared.loads.now (slice_index_or l.initial.part k d) (slice_index_or l.part k d);
  rest : (k : ℕ) (d : Hand) → l.hand-index ≤ k → slice_index_or l.part k d ≡ slice_index_or l.initial.part k d;
}
