use Rattle.std.proofs.Common.{◌≡◌, take}
use Rattle.cut_bound.proofs.made.copied.Given as goal

abbrev pub invariant-loop-i : goal.invariant-loop-i
invariant-loop-i l = l.copy ≡ record { lengths = l.dual.lengths; potentials = take l.i l.dual.potentials }
