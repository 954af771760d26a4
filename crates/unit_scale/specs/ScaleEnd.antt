-- What scaling answers.
use Rattle.std.specs.Prelude.{◌≡◌, Result, Ok, Err}
use Rattle.sndlib_grammar.specs.Rows.{NetRows}
use Rattle.unit_scale.specs.Scaling.{ScaledNet, scaled_of}
use Rattle.unit_scale.specs.declared.options.NetOptions.{NetOptions}
use Rattle.unit_scale.specs.declared.refusal.ScaleEnd.{ScaleEnd}
use Rattle.unit_scale.specs.declared.refusal.ScaleEnd.TheVariants.{Refused, Memory}

-- the network of the rows, or their first refusal; if memory ran out, nothing is said
abbrev pub Scales : NetRows → NetOptions → Result ScaledNet ScaleEnd → Type 0
Scales rows o (Ok scaled) = scaled_of rows o ≡ Ok scaled
Scales rows o (Err Memory) = Unit {0}
Scales rows o (Err (Refused r)) = scaled_of rows o ≡ Err r
