use Rattle.std.proofs.Common.{◌≡◌, ℕ, ◌<◌, ◌≤◌, eqb, length, get_or, take, Some}
use Rattle.std.specs.Prelude.{count_by, find}
use Rattle.flow_paths.specs.DualRows.{potential_at}
use Rattle.flow_paths.proofs.places.row_places.Given as goal

abbrev pub invariant-loop-i : goal.invariant-loop-i
invariant-loop-i l = record {
  len : length l.places.items ≡ l.nodes;
  value : (v : ℕ) → v < l.nodes → 1 ≤ count_by (λ r. eqb r.node v) (take l.i l.dual.potentials)
      → (get_or l.places.items v 0 < l.i) × (find (λ r. eqb r.node v) (take l.i l.dual.potentials) ≡ Some (potential_at l.dual.potentials (get_or l.places.items v 0)));
}
