use Rattle.std.proofs.Common.{◌≡◌, drop, max}
use Rattle.flow_model.specs.Lengths.{greatest_exponent}
use Rattle.gates.proofs.lengths.greatest_of.Given as goal

abbrev pub invariant-loop-i : goal.invariant-loop-i
invariant-loop-i l = max l.top (greatest_exponent l.setting (drop l.i l.cells) (drop l.i l.loads)) ≡ greatest_exponent l.setting l.cells l.loads
