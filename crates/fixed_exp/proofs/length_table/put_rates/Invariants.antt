use Rattle.std.proofs.Common.{◌≡◌, ◌<◌, ◌*◌, ◌/◌, ◌^◌, ℕ, get_or}
use Rattle.fixed_exp.specs.Kept.{no_rate, cell_at, HasExponentRate}
use Rattle.fixed_exp.proofs.length_table.put_rates.Given as goal

abbrev pub invariant-loop-i : goal.invariant-loop-i
invariant-loop-i l = record {
  done : (k : ℕ) → k < l.i → (get_or l.into k no_rate).length ≡ 2 ^ 52 * l.least / (cell_at l.cells k).cap;
  exponents : (k : ℕ) → k < l.i → HasExponentRate l.scale.setting (cell_at l.cells k) (get_or l.into k no_rate);
}
