-- The fullest cell of loads.
use Rattle.std.specs.Prelude.{◌≡◌, ℕ, nat_lt, List, length, map, filter, slice_index}
use Rattle.std.specs.List.{range_with_len}
use Rattle.flow_model.specs.declared.net.Cell.{Cell}
use Rattle.gap_fraction.specs.Fraction.{Fraction}
use Rattle.flow_paths.specs.Least.{IsFirstLeast}

-- the numbers of the cells with a load, ascending
abbrev pub loaded_cells : List ℕ → List ℕ
loaded_cells loads = filter (λ c. nat_lt 0 (slice_index loads c)) (range_with_len 0 (length loads))

-- capacity over load of the cell of that number
abbrev pub ratio_at : List Cell → List ℕ → ℕ → Fraction
ratio_at cells loads c = record { num = slice_index (map (λ (cell : Cell). cell.cap) cells) c; den = slice_index loads c }

-- it is capacity over load of the first cell, of those with a load, at which that is least
pub record IsFirstFullest (cells : List Cell) (loads : List ℕ) (f : Fraction) : Type 0 where
  pub cell : ℕ
  pub first : IsFirstLeast (ratio_at cells loads) (loaded_cells loads) cell
  pub value : f ≡ ratio_at cells loads cell
