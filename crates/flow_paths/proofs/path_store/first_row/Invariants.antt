use Rattle.std.proofs.Common.{◌≡◌, ℕ, ◌+◌, ◌<◌, ◌≤◌, length}
use Rattle.std.specs.Prelude.{MatchOption}
use Rattle.flow_paths.specs.PathKey.{key_of}
use Rattle.flow_paths.specs.PathRows.{row_at, HasPath}
use Rattle.flow_paths.proofs.path_store.first_row.Given as goal

abbrev pub invariant-loop-place : goal.invariant-loop-place
invariant-loop-place l = record {
  within : l.place ≤ length l.index;
  key : (j : ℕ) → l.place ≡ j + 1 → key_of (row_at l.rows j).commodity (row_at l.rows j).walk ≡ key_of l.k l.path;
  found : MatchOption l.first ((j : ℕ) → l.place ≤ j → j < length l.index → ¬ (HasPath l.k l.path (row_at l.rows j)))
      (λ n. (n < length l.rows) × HasPath l.k l.path (row_at l.rows n) × ((j : ℕ) → l.place ≤ j → j < n → ¬ (HasPath l.k l.path (row_at l.rows j))));
}

abbrev pub decreases-loop-place : goal.decreases-loop-place
decreases-loop-place l = l.place
