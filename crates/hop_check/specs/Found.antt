-- What is answered of the limits of a network's rows.
use Rattle.std.specs.Prelude.{◌≡◌, ℕ, List, Option, Some, None, Result, Ok, Err}
use Rattle.sndlib_grammar.specs.Rows.{NetRows}
use Rattle.hop_paths.specs.Allowed.{AreLimits}
use Rattle.unit_scale.specs.Scaling.{ScaledNet}
use Rattle.unit_scale.specs.declared.refusal.ScaleEnd.{ScaleEnd}
use Rattle.unit_scale.specs.declared.refusal.ScaleEnd.TheVariants.{Refused, Memory}
use Rattle.hop_check.specs.Limits.{limits_of, hop_refusal}

-- the limits, none of them too far, or the refusal at the first that is; if memory ran out, nothing is said
abbrev pub FindsLimits : NetRows → ScaledNet → Result (List (Option ℕ)) ScaleEnd → Type 0
FindsLimits rows net (Ok limits) = (limits ≡ limits_of rows net) × (hop_refusal rows ≡ None) × AreLimits net.net limits
FindsLimits rows net (Err Memory) = Unit {0}
FindsLimits rows net (Err (Refused r)) = hop_refusal rows ≡ Some r
