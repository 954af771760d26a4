use Rattle.std.proofs.Common.{◌≡◌, ℕ, ◌-◌, ◌<◌, ◌≤◌, slice_index_or, [], ◌∷◌}
use Rattle.flow_core.specs.Core.{idle}
use Rattle.load_table.specs.Views.{hand, view_of}
use Rattle.load_table.specs.Seen.{IsPassOf}
use Rattle.phase_engine.specs.declared.hand.Hand.{Hand}
use Rattle.phase_engine.specs.Hands.{IsReady, IsFresh, IsSameWorker}
use Rattle.phase_engine.proofs.turns.hand_out.Given as goal

abbrev pub invariant-loop-i : goal.invariant-loop-i
invariant-loop-i l = record {
  of : IsPassOf l.loads l.first;
  view : l.first.view ≡ view_of l.loads.terms (l.loads.terms.workers - l.i) (l.i - 1) (hand 0 idle ∷ []);
  numbers : (k : ℕ) (d : Hand) → k < l.i-end → (slice_index_or l.hands k d).worker ≡ k;
  done : (k : ℕ) (d : Hand) → 0 < k → k < l.i → IsReady l.loads (slice_index_or l.hands k d);
  same : (k : ℕ) (d : Hand) → k < l.i-end → IsSameWorker (slice_index_or l.fn.hands k d) (slice_index_or l.hands k d);
  rest : (d : Hand) → IsFresh l.loads.terms.net 0 (slice_index_or l.hands 0 d);
  fresh : (k : ℕ) (d : Hand) → l.i ≤ k → k < l.i-end → IsFresh l.loads.terms.net k (slice_index_or l.hands k d);
}
