-- The ascending order of path rows.
use Rattle.std.specs.Prelude.{◌≡◌, ℕ, ◌+◌, ◌<◌, false, List, length, slice_index}
use Rattle.std.specs.List.{range_with_len}
use Rattle.std.specs.List.Sorted.{IsPermutation}
use Rattle.flow_model.specs.Routing.{Row}
use Rattle.flow_paths.specs.PathRows.{row_at}
use Rattle.flow_paths.specs.RowOrder.{row_lt}

-- each number below the length once
abbrev pub IsOfAll : List ℕ → Type 0
IsOfAll order = IsPermutation (range_with_len 0 (length order)) order

-- the numbers of all rows, each once, so that no row comes before its neighbour in front
pub record IsOrderOf (rows : List Row) (order : List ℕ) : Type 0 where
  pub count : length order ≡ length rows
  pub all : IsOfAll order
  pub ascending : (i : ℕ) → i + 1 < length order → row_lt (row_at rows (slice_index order (i + 1))) (row_at rows (slice_index order i)) ≡ false

-- at the number of each row its place
pub record AreNumbersOf (order numbers : List ℕ) : Type 0 where
  pub count : length numbers ≡ length order
  pub back : (i : ℕ) → i < length order → slice_index numbers (slice_index order i) ≡ i
