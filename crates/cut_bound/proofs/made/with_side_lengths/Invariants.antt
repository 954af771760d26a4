use Rattle.std.proofs.Common.{◌≡◌, [], take}
use Rattle.cut_bound.specs.Cuts.{length_rows, side_lengths}
use Rattle.cut_bound.specs.Search.{marked}
use Rattle.cut_bound.proofs.made.with_side_lengths.Given as goal

abbrev pub invariant-loop-c : goal.invariant-loop-c
invariant-loop-c l = l.dual ≡ record { lengths = length_rows 0 (take l.c (side_lengths l.net (marked l.side))); potentials = [] }
