use Rattle.std.proofs.Common.{◌≡◌, map}
use Rattle.std.specs.List.{range_with_len}
use Rattle.cut_bound.specs.Sums.{node_side}
use Rattle.cut_bound.proofs.made.node_marks.Given as goal

abbrev pub invariant-loop-v : goal.invariant-loop-v
invariant-loop-v l = l.marks.items ≡ map (node_side l.into l.node) (range_with_len 0 l.v)
