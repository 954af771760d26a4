-- Cells without capacity.
use Rattle.std.specs.Prelude.{◌≡◌, ℕ, List, slice_get, slice_index, Some}
use Rattle.flow_model.specs.declared.net.Cell.{Cell}
use Rattle.mcf_limits.specs.declared.TheConstants.{MAX_LENGTH}

-- the length of a cell without capacity stands for infinity
pub record EmptyAreFar (cells : List Cell) (lengths : List ℕ) : Type 0 where
  pub each : (c : ℕ) (cell : Cell) → slice_get cells c ≡ Some cell → cell.cap ≡ 0 → slice_index lengths c ≡ MAX_LENGTH
