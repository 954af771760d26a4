-- Rows of layers, as the model sees them.
use Rattle.std.specs.Prelude.{◌≤◌, List, All, map}
use Rattle.hop_check.specs.declared.layers.LayerRow.{LayerRow}
use Rattle.hop_check.specs.LayerRows.{Layer}
use Rattle.mcf_limits.specs.declared.TheConstants.{MAX_LENGTH}

abbrev pub layer_of_row : LayerRow → Layer
layer_of_row r = record { node = r.node; index = r.index; values = r.values.items }

abbrev pub layers_of_rows : List LayerRow → List Layer
layers_of_rows rows = map layer_of_row rows

-- no number is above the limit
abbrev pub AreWithinLimits : List LayerRow → Type 0
AreWithinLimits rows = All (λ r. All (λ p. p ≤ MAX_LENGTH) r.values.items) rows
