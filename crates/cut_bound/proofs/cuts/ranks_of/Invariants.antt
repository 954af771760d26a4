use Rattle.std.proofs.Common.{◌≡◌, ℕ, ◌+◌, ◌<◌, length, get_or}
use Rattle.std.specs.Prelude.{◌↔◌, All}
use Rattle.cut_bound.proofs.cuts.ranks_of.Given as goal

abbrev pub invariant-loop-value : goal.invariant-loop-value
invariant-loop-value l = record {
  len : length l.ranks.items ≡ l.value-index;
  within : All (λ r. r < length l.levels + 1) l.ranks.items;
  below : (v : ℕ) → v < l.value-index → (i : ℕ) → i < length l.levels → (get_or l.ranks.items v 0 < i + 1) ↔ (get_or l.values v 0 < get_or l.levels i 0);
}
