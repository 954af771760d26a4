use Rattle.std.proofs.Common.{◌≡◌, ◌<◌, ℕ, drop, max}
use Rattle.flow_model.specs.Lengths.{greatest_exponent}
use Rattle.fixed_exp.specs.Kept.{KeepsExponent}
use Rattle.fixed_exp.proofs.lengths.exponents_of.Given as goal

abbrev pub invariant-loop-i : goal.invariant-loop-i
invariant-loop-i l = record {
  greatest : max l.top (greatest_exponent l.scale.setting (drop l.i l.cells) (drop l.i l.loads)) ≡ greatest_exponent l.scale.setting l.cells l.loads;
  kept : (k : ℕ) → k < l.i → KeepsExponent l.scale.setting l.cells l.loads l.into k;
}
