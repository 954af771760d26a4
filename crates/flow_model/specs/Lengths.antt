-- The length of each cell under loads.
use Rattle.std.specs.Prelude.{◌≡◌, length, slice_index, slice_get, Some, ℕ, ◌-◌, ◌*◌, ◌/◌, ◌^◌, ◌≤◌, List, [], ◌∷◌, min, max, ◌==◌, if◌then◌else◌}
use Rattle.flow_model.specs.declared.net.Cell.{Cell}
use Rattle.flow_model.specs.declared.setting.Setting.{Setting}
use Rattle.flow_model.specs.Network.{Network}
use Rattle.flow_model.specs.Powers.{weight_of}
use Rattle.mcf_limits.specs.declared.TheConstants.{MAX_LENGTH, MAX_STEP, MAX_UNITS}

-- a setting within the limits
pub record IsSetting (s : Setting) : Type 0 where
  pub cap : s.ref_cap ≤ MAX_UNITS
  pub load : 1 ≤ s.ref_load
  pub step : s.step ≤ MAX_STEP

-- how far a cell's load stands in the exponent; without capacity, or in the first phase, not at all
abbrev pub exponent : Setting → Cell → ℕ → ℕ
exponent s cell load =
    if cell.cap == 0 then 0 else (if s.first then 0 else load * s.ref_cap * s.step / (cell.cap * s.ref_load))

-- the greatest exponent of a cell
abbrev pub greatest_exponent : Setting → List Cell → List ℕ → ℕ
greatest_exponent s [] loads = 0
greatest_exponent s (cell ∷ cells) [] = 0
greatest_exponent s (cell ∷ cells) (load ∷ loads) = max (exponent s cell load) (greatest_exponent s cells loads)

-- the least positive capacity, or 2 ^ 44 where there is none
abbrev pub least_capacity : List Cell → ℕ
least_capacity [] = MAX_UNITS
least_capacity (cell ∷ cells) = if cell.cap == 0 then least_capacity cells else min cell.cap (least_capacity cells)

-- the length of a cell, where the greatest exponent and the least capacity are known
abbrev pub length_at : Setting → ℕ → ℕ → Cell → ℕ → ℕ
length_at s top least cell load =
    if cell.cap == 0 then MAX_LENGTH else max 1 (weight_of (top - exponent s cell load) * 4096 * least / cell.cap)

-- the lengths of these cells, one after the other
abbrev pub lengths_at : Setting → ℕ → ℕ → List Cell → List ℕ → List ℕ
lengths_at s top least [] loads = []
lengths_at s top least (cell ∷ cells) [] = []
lengths_at s top least (cell ∷ cells) (load ∷ loads) = length_at s top least cell load ∷ lengths_at s top least cells loads

-- the length of every cell
abbrev pub lengths_of : Network → Setting → List ℕ → List ℕ
lengths_of net s loads = lengths_at s (greatest_exponent s net.cells loads) (least_capacity net.cells) net.cells loads

-- the lengths of positive cells are 1 to 2 ^ 52
pub record AreLengths (cells : List Cell) (lengths : List ℕ) : Type 0 where
  pub count : length lengths ≡ length cells
  pub low : (c : ℕ) (cell : Cell) → slice_get cells c ≡ Some cell → 1 ≤ cell.cap → 1 ≤ slice_index lengths c
  pub high : (c : ℕ) (cell : Cell) → slice_get cells c ≡ Some cell → 1 ≤ cell.cap → slice_index lengths c ≤ 2 ^ 52
