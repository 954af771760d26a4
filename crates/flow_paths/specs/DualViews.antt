-- Rows of lengths and potentials, as the model sees them.
use Rattle.std.specs.Prelude.{◌≤◌, List, All, map}
use Rattle.flow_paths.specs.declared.dual.LengthRow.{LengthRow}
use Rattle.flow_paths.specs.declared.dual.PotentialRow.{PotentialRow}
use Rattle.flow_paths.specs.DualRows.{Length, Potential}
use Rattle.mcf_limits.specs.declared.TheConstants.{MAX_LENGTH}

abbrev pub length_of_row : LengthRow → Length
length_of_row r = record { cell = r.cell; value = r.value }

abbrev pub potential_of_row : PotentialRow → Potential
potential_of_row r = record { node = r.node; values = r.values.items }

abbrev pub lengths_of_rows : List LengthRow → List Length
lengths_of_rows rows = map length_of_row rows

abbrev pub potentials_of_rows : List PotentialRow → List Potential
potentials_of_rows rows = map potential_of_row rows

-- no length and no potential is above the limit
pub record AreWithinLimits (lengths : List LengthRow) (potentials : List PotentialRow) : Type 0 where
  pub lengths_limit : All (λ r. r.value ≤ MAX_LENGTH) lengths
  pub potentials_limit : All (λ r. All (λ p. p ≤ MAX_LENGTH) r.values.items) potentials
