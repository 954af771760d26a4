use Rattle.std.proofs.Common.{◌≡◌, ℕ, ◌+◌, ◌*◌, ◌<◌, ◌≤◌, eqb, length, get_or, take}
use Rattle.std.specs.Prelude.{count_by}
use Rattle.mcf_limits.specs.declared.TheConstants.{MAX_HOPS}
use Rattle.hop_check.specs.Tables.{place_of}
use Rattle.hop_check.proofs.places.layer_rows.Given as goal

abbrev pub invariant-loop-i : goal.invariant-loop-i
invariant-loop-i l = record {
  len : length l.counts.items ≡ l.nodes * (MAX_HOPS + 1);
  value : (p : ℕ) → p < l.nodes * (MAX_HOPS + 1) → get_or l.counts.items p 0 ≡ count_by (λ r. eqb (place_of r.node r.index) p) (take l.i l.layers);
  bound : (p : ℕ) → p < l.nodes * (MAX_HOPS + 1) → get_or l.counts.items p 0 ≤ l.i;
}
