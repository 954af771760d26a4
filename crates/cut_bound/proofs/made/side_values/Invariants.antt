use Rattle.std.proofs.Common.{◌≡◌, ◌≤◌, map}
use Rattle.std.specs.Prelude.{All}
use Rattle.std.specs.List.{range_with_len}
use Rattle.cut_bound.specs.Cuts.{side_potential}
use Rattle.cut_bound.specs.Search.{marked}
use Rattle.cut_bound.proofs.made.side_values.Given as goal

abbrev pub invariant-loop-on_side : goal.invariant-loop-on_side
invariant-loop-on_side l = record {
  small : All (λ p. p ≤ 1) l.values.items;
  value : l.values.items ≡ map (side_potential l.both (marked l.side) l.source) (range_with_len 0 l.on_side-index);
}
