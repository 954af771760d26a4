use Rattle.std.proofs.Common.{◌≡◌, ◌≤◌, take}
use Rattle.std.specs.Str.Parse.{digits_value}
use Rattle.cert_lines.proofs.numbers.number_within.Given as goal

abbrev pub invariant-loop-b : goal.invariant-loop-b
invariant-loop-b l = record {
  value_is : l.value ≡ digits_value 10 (take l.b-index l.word);
  within : l.value ≤ l.most;
}
