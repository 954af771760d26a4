use Rattle.std.proofs.Common.{◌≡◌, ℕ, ◌<◌, length, get_or}
use Rattle.flow_paths.proofs.ordering.new_numbers.Given as goal

abbrev pub invariant-loop-place : goal.invariant-loop-place
invariant-loop-place l = record {
  count : length l.numbers.items ≡ length l.order;
  back : (i : ℕ) → i < l.place → get_or l.numbers.items (get_or l.order i 0) 0 ≡ i;
}
