-- From the solves by number to the solves of all links.
use Rattle.std.proofs.Common.{◌≡◌, ℕ, ◌<◌, List, length, get_or, Some, subst, arith}
use Rattle.std.specs.Prelude.{slice_get}
use Rattle.std.proofs.lemmas.Option.{slice_get_within, get_or_from_slice_get}
use Rattle.flow_model.specs.Network.{Network}
use Rattle.unit_scale.specs.declared.modes.LinkMode.{LinkMode}
use Rattle.sweep_cmd.specs.declared.asked.SweepOptions.{SweepOptions}
use Rattle.sweep_cmd.specs.declared.swept.Swept.{Swept}
use Rattle.sweep_cmd.specs.Swept.{IsSwept, AreSwept}

-- what is kept of all links
pub all_swept : (mode : LinkMode) (net : Network) (o : SweepOptions) (swept : List Swept) (links : ℕ) → length swept ≡ links
    → ((i : ℕ) (d : Swept) → i < links → IsSwept mode net o i (get_or swept i d)) → AreSwept mode net o links swept
all_swept mode net o swept links count h = record { count = count; each = each }
  where
    each : (link : ℕ) (s : Swept) → slice_get swept link ≡ Some s → IsSwept mode net o link s
    each link s at =
        let inside : link < length swept = slice_get_within swept link s at in
        subst (λ (x : Swept). IsSwept mode net o link x) (get_or_from_slice_get swept link s s at) (h link s (omega arith))
