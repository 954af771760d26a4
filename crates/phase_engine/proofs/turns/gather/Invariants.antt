use Rattle.std.proofs.Common.{◌≡◌, ℕ, ◌-◌, ◌<◌, ◌≤◌, true, false, length, slice_index_or}
use Rattle.load_table.specs.Seen.{IsPassOf}
use Rattle.phase_engine.specs.declared.hand.Hand.{Hand}
use Rattle.phase_engine.specs.Hands.{IsBack, IsWorkOf, SomeStopped, NoneStopped}
use Rattle.phase_engine.proofs.turns.gather.Given as goal

abbrev pub invariant-loop-i : goal.invariant-loop-i
invariant-loop-i l = record {
  of : IsPassOf l.loads l.all;
  left : l.all.view.left ≡ 0;
  made : l.all.view.made ≡ l.loads.terms.workers - 1;
  as_many : length l.all.view.hands ≡ l.i;
  works : (k : ℕ) (d : Hand) → k < l.i → IsWorkOf l.loads.terms l.all.view.hands k (slice_index_or l.hands k d);
  stopped : l.whole ≡ true → SomeStopped l.all.view.hands;
  none : l.whole ≡ false → NoneStopped l.all.view.hands;
  back : (k : ℕ) (d : Hand) → k < l.i → IsBack (slice_index_or l.fn.hands k d) (slice_index_or l.hands k d);
  rest : (k : ℕ) (d : Hand) → l.i ≤ k → slice_index_or l.hands k d ≡ slice_index_or l.fn.hands k d;
}
