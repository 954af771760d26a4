use Rattle.std.proofs.Common.{◌≡◌, [], take}
use Rattle.cut_bound.proofs.made.copied_lengths.Given as goal

abbrev pub invariant-loop-i : goal.invariant-loop-i
invariant-loop-i l = l.copy ≡ record { lengths = take l.i l.dual.lengths; potentials = [] }
