use Rattle.std.proofs.Common.{◌≡◌, take}
use Rattle.std.specs.Prelude.{IfSome}
use Rattle.cut_bound.specs.Slots.{least_of, IsCrossed}
use Rattle.cut_bound.proofs.choice.least_of.Given as goal

abbrev pub invariant-loop-cut : goal.invariant-loop-cut
invariant-loop-cut l = record {
  value : l.least ≡ least_of (take l.cut-index l.cuts);
  crossed : IfSome l.least IsCrossed;
}
