use Rattle.std.proofs.Common.{◌≡◌, drop, max}
use Rattle.fixed_exp.specs.Kept.{greatest}
use Rattle.fixed_exp.proofs.follow.greatest_of.Given as goal

abbrev pub invariant-loop-i : goal.invariant-loop-i
invariant-loop-i l = record {
  rest : max l.top (greatest (drop l.i l.numbers)) ≡ greatest l.numbers;
}
