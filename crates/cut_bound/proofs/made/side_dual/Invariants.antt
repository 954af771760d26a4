use Rattle.std.proofs.Common.{◌≡◌, map, take}
use Rattle.flow_model.specs.Groups.{group_sources}
use Rattle.cut_bound.specs.Cuts.{length_rows, side_lengths, side_row}
use Rattle.cut_bound.specs.Search.{marked}
use Rattle.cut_bound.proofs.made.side_dual.Given as goal

abbrev pub invariant-loop-g : goal.invariant-loop-g
invariant-loop-g l = l.dual ≡ record {
  lengths = length_rows 0 (side_lengths l.net (marked l.side));
  potentials = map (side_row l.net l.both (marked l.side)) (take l.g (group_sources l.net));
}
