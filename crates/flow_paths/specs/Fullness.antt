-- Capacity over load of the fullest cell.
use Rattle.std.specs.Prelude.{◌≤◌}
use Rattle.gap_fraction.specs.Fraction.{Fraction}
use Rattle.mcf_limits.specs.declared.TheConstants.{MAX_LENGTH, MAX_UNITS}
use Rattle.flow_paths.specs.declared.fill.Fill.{Fill}

abbrev pub fullness : Fill → Fraction
fullness f = record { num = f.cap; den = f.load }

-- a cell with a load, within the limits
pub record IsFill (f : Fill) : Type 0 where
  pub some : 1 ≤ f.load
  pub load : f.load ≤ MAX_LENGTH
  pub cap : f.cap ≤ MAX_UNITS
