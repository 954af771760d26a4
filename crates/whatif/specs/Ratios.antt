-- The capacity over the load of each cell, as a fraction that may be 1/0.
use Rattle.std.specs.Prelude.{ℕ, ◌+◌, ◌*◌, ◌≡◌, ◌≤◌, ◌==◌, if◌then◌else◌, List, [], ◌∷◌}
use Rattle.mcf_limits.specs.declared.TheConstants.{MAX_UNITS}
use Rattle.flow_model.specs.declared.net.Cell.{Cell}
use Rattle.whatif.specs.declared.ratio.Ratio.{Ratio}
use Rattle.whatif.specs.declared.ratio.TheConstants.{MAX_LOAD}

-- 1/0, above all fractions, where there is no load
abbrev pub ratio_of : ℕ → ℕ → ℕ → Ratio
ratio_of cap load cell = if load == 0 then record { cap = 1; load = 0; cell = cell } else record { cap = cap; load = load; cell = cell }

-- that of each cell, the first of which has the number n
abbrev pub ratios : ℕ → List Cell → List ℕ → List Ratio
ratios n [] loads = []
ratios n (cell ∷ cells) [] = []
ratios n (cell ∷ cells) (load ∷ loads) = ratio_of cell.cap load n ∷ ratios (n + 1) cells loads

-- both parts are within the limits, and not both are 0
pub record IsRatio (x : Ratio) : Type 0 where
  pub cap : x.cap ≤ MAX_UNITS
  pub load : x.load ≤ MAX_LOAD
  pub some : x.load ≡ 0 → 1 ≤ x.cap

-- of less value, or of the same value and not of a later cell
pub record Precedes (x y : Ratio) : Type 0 where
  pub value : x.cap * y.load ≤ y.cap * x.load
  pub first : y.cap * x.load ≤ x.cap * y.load → x.cell ≤ y.cell
