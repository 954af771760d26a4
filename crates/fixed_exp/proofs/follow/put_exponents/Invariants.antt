use Rattle.std.proofs.Common.{◌≡◌, ◌<◌, ℕ, false, length}
use Rattle.fixed_exp.specs.Changes.{IsNotIn}
use Rattle.fixed_exp.specs.Kept.{KeepsExponent, greatest}
use Rattle.fixed_exp.proofs.follow.put_exponents.Given as goal

abbrev pub invariant-loop-j : goal.invariant-loop-j
invariant-loop-j l = record {
  kept : (k : ℕ) → k < length l.rated.cells.now → IsNotIn l.changed.count l.changed.places.now l.j k → KeepsExponent l.rated.scale.now.setting l.rated.cells.now l.loads l.kept k;
  top : l.falls ≡ false → greatest l.kept ≡ l.top;
}
