use Rattle.std.proofs.Common.{◌≡◌, ℕ, ◌+◌, ◌*◌, ◌<◌, ◌≤◌, eqb, length, get_or, take, Some}
use Rattle.std.specs.Prelude.{count_by, find}
use Rattle.mcf_limits.specs.declared.TheConstants.{MAX_HOPS}
use Rattle.hop_check.specs.LayerRows.{layer_at}
use Rattle.hop_check.specs.Tables.{place_of}
use Rattle.hop_check.proofs.places.layer_places.Given as goal

abbrev pub invariant-loop-i : goal.invariant-loop-i
invariant-loop-i l = record {
  len : length l.places.items ≡ l.nodes * (MAX_HOPS + 1);
  value : (p : ℕ) → p < l.nodes * (MAX_HOPS + 1) → 1 ≤ count_by (λ r. eqb (place_of r.node r.index) p) (take l.i l.layers)
      → (get_or l.places.items p 0 < l.i) × (find (λ r. eqb (place_of r.node r.index) p) (take l.i l.layers) ≡ Some (layer_at l.layers (get_or l.places.items p 0)));
}
